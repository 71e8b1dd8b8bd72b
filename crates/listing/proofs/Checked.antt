-- A listed file: what the listing tells of its bytes, and what has to hold of them for that answer. The chain of checks is
-- inverted link by link and built link by link, and the walk is exchanged for rows that are laid.
-- Assumes nothing.
use mathlib.Core.Path.{◌≡◌, ◌∙◌, ap, subst}
use mathlib.Core.Bool.{true, ◌||◌}
use mathlib.Core.List.{List}
use Prim.Native.Nat.{ℕ, ◌≤◌, ◌<◌}
use lib.ListN.{length}
use lib.Dec.{eqb, leb, ltb}
use borrow.Author.Tests.{le-leb, leb-true, eq-eqb, ne_eqb, eqb-true, eqb-false, lt-ltb, ltb-true}
use Rattle.chunk.specs.declared.Entry.{Entry}
use Rattle.chunk.specs.declared.Refusal.TheVariants.{BadChunkSet}
use Rattle.chunk.specs.Refusals.{Ok, check}
use Rattle.chunk.specs.Names.{FMT, DATA, FACT, BEXT, CHNA}
use Rattle.chunk.specs.Tables.{count, find, LIMIT}
use Rattle.chunk.specs.Walks.{Walked}
use Rattle.chunk.proofs.Checks.{given-inj, check-given, check-true, and_then-given, and_then-at, rule_and, or-true, or-false}
use Rattle.chunk.proofs.Laid.{Laid, walk-laid, laid-walk}
use Rattle.form.specs.Forms.{head_of}
use Rattle.form.proofs.Heads.{Opened, head_opened, opened-head}
use Rattle.truesize.specs.Sizes.{true_size, entries_of}
use Rattle.listing.specs.Listings.{chunks_good, Listing, headers, listing}

-- ---- check 10

-- "exactly one fmt and one data, fmt first, and at most one each of bext, chna and fact; fact holds at least 4 bytes"
pub record Chunked (rows : List Entry) : Type 0 where
  pub one_fmt : count FMT rows ≡ 1
  pub one_data : count DATA rows ≡ 1
  pub fmt_first : (find FMT rows).place < (find DATA rows).place
  pub bext : count BEXT rows ≤ 1
  pub chna : count CHNA rows ≤ 1
  pub fact : count FACT rows ≤ 1
  pub fact_holds : (count FACT rows ≡ 0 → ⊥) → 4 ≤ (find FACT rows).size

pub good-chunked : (rows : List Entry) → chunks_good rows ≡ true → Chunked rows
unfolding chunks_good
good-chunked rows e =
    let c1 = rule_and (eqb (count FMT rows) 1) _ e in
    let c2 = rule_and (eqb (count DATA rows) 1) _ c1.1 in
    let c3 = rule_and (ltb (find FMT rows).place (find DATA rows).place) _ c2.1 in
    let c4 = rule_and (leb (count BEXT rows) 1) _ c3.1 in
    let c5 = rule_and (leb (count CHNA rows) 1) _ c4.1 in
    let c6 = rule_and (leb (count FACT rows) 1) _ c5.1 in
    let c7 = rule_and (eqb (count FACT rows) 0 || leb 4 (find FACT rows).size) _ c6.1 in
    record {
      one_fmt = eqb-true (count FMT rows) 1 c1.0;
      one_data = eqb-true (count DATA rows) 1 c2.0;
      fmt_first = ltb-true (find FMT rows).place (find DATA rows).place c3.0;
      bext = leb-true (count BEXT rows) 1 c4.0;
      chna = leb-true (count CHNA rows) 1 c5.0;
      fact = leb-true (count FACT rows) 1 c6.0;
      fact_holds = λ k.
          leb-true 4 (find FACT rows).size (or-false (eqb (count FACT rows) 0) _ c7.0 (ne_eqb (count FACT rows) 0 k));
    }

pub chunked-good : (rows : List Entry) → Chunked rows → chunks_good rows ≡ true
unfolding chunks_good
chunked-good rows c =
    rw (
      eq-eqb (count FMT rows) 1 c.one_fmt,
      eq-eqb (count DATA rows) 1 c.one_data,
      lt-ltb (find FMT rows).place (find DATA rows).place c.fmt_first,
      le-leb (count BEXT rows) 1 c.bext,
      le-leb (count CHNA rows) 1 c.chna,
      le-leb (count FACT rows) 1 c.fact,
      or-true (eqb (count FACT rows) 0) (leb 4 (find FACT rows).size)
          (λ e. le-leb 4 (find FACT rows).size (c.fact_holds (eqb-false (count FACT rows) 0 e))),
    )

-- ---- the listing

pub record Checked (s : List ℕ) (l : Listing) : Type 0 where
  pub opened : Opened s l.head
  pub laid : Laid (true_size l.head (entries_of l.head s)) s 12 l.rows
  pub few : length l.rows ≤ LIMIT
  pub chunked : Chunked l.rows

pub listing-checked : (s : List ℕ) (l : Listing) → listing s ≡ Ok l → Checked s l
unfolding listing headers
listing-checked s l e =
    let c1 = and_then-given (head_of s) _ l e in
    let c2 = and_then-given (headers c1.0 s).end _ l c1.2 in
    let c3 = check-given (chunks_good (headers c1.0 s).rows) _ _ l c2.2 in
    let w = walk-laid (true_size c1.0 (entries_of c1.0 s)) s LIMIT 12 c2.1 in
    subst (Checked s) (given-inj _ _ c3.1)
    (record { opened = head_opened s c1.0 c1.1; laid = w.laid; few = w.few; chunked = good-chunked _ c3.0 })

pub checked-listing : (s : List ℕ) (l : Listing) → Checked s l → listing s ≡ Ok l
unfolding listing headers
checked-listing s l h =
    let walked = laid-walk LIMIT h.laid h.few in
    and_then-at (head_of s) _ l.head (opened-head s l.head h.opened)
    ∙ and_then-at (headers l.head s).end _ tt (ap (λ (w : Walked). w.end) walked)
    ∙ ap (λ (w : Walked). check (chunks_good w.rows) BadChunkSet (Ok (record { head = l.head; rows = w.rows }))) walked
    ∙ check-true (chunks_good l.rows) _ _ (chunked-good l.rows h.chunked)
