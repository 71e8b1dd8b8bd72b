-- The listing by its parts: the walk past ds64 beside the walk of all headers, and check 10 of its tally; one law for each
-- outcome.
-- Assumes nothing.
use mathlib.Core.Path.{◌≡◌, refl, sym, ap, ap₂, ◌∙◌}
use mathlib.Core.Bool.{Bool, true, false}
use mathlib.Core.List.{List, [], ◌∷◌}
use Prim.Native.Nat.{ℕ, ◌+◌, ◌-◌, ◌≤◌, ◌<◌}
use native.Mathlib.Omega.{arith}
use lib.ListN.{length}
use lib.Dec.{eqb}
use borrow.Author.Tests.{eqb-true, eqb-false}
use Rattle.le.specs.Number.{number}
use Rattle.chunk.specs.declared.Entry.{Entry}
use Rattle.chunk.specs.declared.Header.{Header}
use Rattle.chunk.specs.declared.Refusal.{Refusal}
use Rattle.chunk.specs.declared.Refusal.TheVariants.{BadChunkSet, CutHeader}
use Rattle.chunk.specs.Refusals.{Answer, Verdict, Err, Ok, check}
use Rattle.chunk.specs.Names.{DS64}
use Rattle.chunk.specs.Tables.{LIMIT}
use Rattle.chunk.specs.Walks.{Walked, entry_of, field_size, past, walk}
use Rattle.chunk.specs.Code.{header_of}
use Rattle.chunk.proofs.Checks.{given-inj, refused-inj, refused-given, picked, pick_true, pick-false, check-true, check-false, and_then-at, and_then-refused}
use Rattle.chunk.proofs.Turns.{step_cut}
use Rattle.chunk.proofs.Laid.{Row, step_row, step_end, walk-chunk, walk-stop, walk-laid}
use Rattle.form.specs.declared.Head.{Head}
use Rattle.form.specs.declared.Start.{Start}
use Rattle.form.specs.Forms.{is_wide, head_of}
use Rattle.form.specs.Code.{place_of, room_of, second}
use Rattle.form.proofs.Heads.{head_opened, wide-head, Ds64Rules, ds64-rules}
use Rattle.form.proofs.Opens.{Starts}
use Rattle.truesize.specs.Sizes.{entries_of}
use Rattle.truesize.proofs.Sizes.{true-ds64}
use Rattle.listing.specs.declared.tally.Tally.{Tally}
use Rattle.listing.specs.declared.headers.Noted.{Noted}
use Rattle.listing.specs.declared.Listing as code
use Rattle.listing.specs.Listings.{chunks_good, Listing, headers, listing}
use Rattle.listing.specs.Code.{all_noted, no_tally, tally_good, rule, rest_of, tally_as, kept_of, listed_as, Fresh, chunks_as, bare_as}
use Rattle.listing.proofs.Checked.{good-chunked}
use Rattle.listing.proofs.Tallied.{noted-ds64, all-fmt, all-audio, all-fact, tally-good}

-- ---- the walk past ds64 beside the walk of all headers

-- it ends as that does, its tally is that of all chunks, and it counts ds64 by the room that is gone
pub record Beside (w r : Walked) (room : ℕ) : Type 0 where
  pub end : w.end ≡ r.end
  pub tally : all_noted no_tally w.rows ≡ all_noted no_tally r.rows
  pub count : length w.rows ≡ LIMIT - room + length r.rows

beside-riff : (s : List ℕ) (o : Start) → o.place ≡ 20 → o.room ≡ LIMIT → Beside (headers o.head s) (rest_of o s) o.room
unfolding headers
beside-riff s o p q =
    let k : 12 ≡ o.place - 8 = omega (arith, p) in
    let e : headers o.head s ≡ rest_of o s = ap₂ (λ (room at : ℕ). walk (rule o.head s) s room at) (sym q) k in
    record {
      end = ap (λ (w : Walked). w.end) e;
      tally = ap (λ (w : Walked). all_noted no_tally w.rows) e;
      count = omega (arith, ap (λ (w : Walked). length w.rows) e, q);
    }

-- ds64's row
ds64_row : List ℕ → Entry
ds64_row s = entry_of 20 DS64 (field_size (number 4 16 s))

rules-at : (s : List ℕ) (h : Head) → head_of s ≡ Ok h → is_wide h.form ≡ true
    → Ds64Rules (length s) (number 4 12 s) (number 4 16 s) (number 4 44 s)
rules-at s h e w = ds64-rules _ _ _ _ (wide-head h.form s h w (head_opened s h e).head).0

ds64-row : (s : List ℕ) (h : Head) → head_of s ≡ Ok h → is_wide h.form ≡ true → Row (rule h s) s 12 (ds64_row s)
unfolding ds64_row past
ds64-row s h e w =
    let r = rules-at s h e w in
    record { place = refl; named = r.named; sized = true-ds64 h (entries_of h s) (number 4 16 s) w r.sized; ends = r.ends }

beside-wide : (s : List ℕ) (o : Start) → Row (rule o.head s) s 12 (ds64_row s) → o.place ≡ second (number 4 16 s) → o.room ≡ LIMIT - 1
    → Beside (headers o.head s) (rest_of o s) o.room
unfolding headers ds64_row past all_noted
beside-wide s o row p q =
    let d : Entry = ds64_row s in
    let k : past d ≡ o.place - 8 = omega (arith, p) in
    let e : headers o.head s ≡ record { rows = d ∷ (rest_of o s).rows; end = (rest_of o s).end } =
    walk-chunk (rule o.head s) s (LIMIT - 1) 12 d (past d) (step_row (LIMIT - 1) row)
    ∙ ap₂ (λ (room at : ℕ). record { rows = d ∷ (walk (rule o.head s) s room at).rows; end = (walk (rule o.head s) s room at).end }) (sym q) k in
    record {
      end = ap (λ (w : Walked). w.end) e;
      tally =
          ap (λ (w : Walked). all_noted no_tally w.rows) e
          ∙ ap (λ (t : Tally). all_noted t (rest_of o s).rows) (noted-ds64 no_tally d refl);
      count = omega (arith, ap (λ (w : Walked). length w.rows) e, q);
    }

pub beside : (s : List ℕ) (o : Start) → Starts s (head_of s) o → Beside (headers o.head s) (rest_of o s) o.room
unfolding place_of room_of
beside s o b = go (is_wide o.head.form) refl
  where
    go : (w : Bool) → is_wide o.head.form ≡ w → Beside (headers o.head s) (rest_of o s) o.room
    go true w =
        beside-wide s o (ds64-row s o.head b.head w) (b.place ∙ pick_true (is_wide o.head.form) _ _ w)
        (b.room ∙ pick_true (is_wide o.head.form) _ _ w)
    go false w =
        beside-riff s o (b.place ∙ pick-false (is_wide o.head.form) _ _ w) (b.room ∙ pick-false (is_wide o.head.form) _ _ w)

-- a header is due past ds64, which ends inside the file
pub record DueAt (s : List ℕ) (place : ℕ) : Type 0 where
  pub start : 8 ≤ place
  pub inside : place - 8 ≤ length s

pub starts-due : (s : List ℕ) (o : Start) → Starts s (head_of s) o → DueAt s o.place
unfolding place_of
starts-due s o b = go (is_wide o.head.form) refl
  where
    go : (w : Bool) → is_wide o.head.form ≡ w → DueAt s o.place
    go true w =
        let p : o.place ≡ second (number 4 16 s) = b.place ∙ pick_true (is_wide o.head.form) _ _ w in
        let e = (rules-at s o.head b.head w).ends in
        record { start = omega (arith, p); inside = omega (arith, p, e) }
    go false w =
        let p : o.place ≡ 20 = b.place ∙ pick-false (is_wide o.head.form) _ _ w in
        let l = (head_opened s o.head b.head).long in
        record { start = omega (arith, p); inside = omega (arith, p, l) }

-- ---- the listing

pub listing-head : (s : List ℕ) (r : Refusal) → head_of s ≡ Err r → listing s ≡ Err r
unfolding listing
listing-head s r e = and_then-refused _ _ r e

listing-walk : (s : List ℕ) (h : Head) (r : Refusal) → head_of s ≡ Ok h → (headers h s).end ≡ Err r → listing s ≡ Err r
unfolding listing
listing-walk s h r e q = and_then-at _ _ h e ∙ and_then-refused _ _ r q

listing-rows : (s : List ℕ) (h : Head) → head_of s ≡ Ok h → (headers h s).end ≡ Ok tt
    → listing s ≡ check (chunks_good (headers h s).rows) BadChunkSet (Ok (record { head = h; rows = (headers h s).rows }))
unfolding listing
listing-rows s h e q = and_then-at _ _ h e ∙ and_then-at _ _ tt q

-- ---- what a walk to the end has noted

record Notes (first : Header) (n : ℕ) (t : Tally) (w : Walked) (x : Noted) : Type 0 where
  pub end : w.end ≡ Ok tt
  pub is : x ≡ record { tally = all_noted t w.rows; first = first; count = n + length w.rows }

noted-told : (first : Header) (n : ℕ) (t : Tally) (w : Walked) (x : Noted) → tally_as first n t w ≡ Ok x → Notes first n t w x
unfolding tally_as
noted-told first n t w x = go w.rows w.end
  where
    go : (rows : List Entry) (v : Verdict) → tally_as first n t (record { rows = rows; end = v }) ≡ Ok x
        → Notes first n t (record { rows = rows; end = v }) x
    go rows (Ok a) e = record { end = refl; is = sym (given-inj _ _ e) }
    go rows (Err r) e = absurd (refused-given r x e)

refused-told : (first : Header) (n : ℕ) (t : Tally) (w : Walked) (r : Refusal) → tally_as first n t w ≡ Err r → w.end ≡ Err r
unfolding tally_as
refused-told first n t w r = go w.rows w.end
  where
    go : (rows : List Entry) (v : Verdict) → tally_as first n t (record { rows = rows; end = v }) ≡ Err r → v ≡ Err r
    go rows (Ok a) e = absurd (refused-given r _ (sym e))
    go rows (Err q) e = ap Err (refused-inj _ _ e)

-- check 10 of all chunks is check 10 of their tally
chunks-all : (s : List ℕ) (h : Head) (rows : List Entry) → length rows ≤ LIMIT
    → chunks_as h (record { tally = all_noted no_tally rows; first = header_of (place_of h.form s) s; count = length rows })
    ≡ listed_as s (check (chunks_good rows) BadChunkSet (Ok (record { head = h; rows = rows })))
unfolding chunks_as listed_as kept_of
chunks-all s h rows few = go (chunks_good rows) refl
  where
    go : (b : Bool) → chunks_good rows ≡ b
        → chunks_as h (record { tally = all_noted no_tally rows; first = header_of (place_of h.form s) s; count = length rows })
        ≡ listed_as s (check (chunks_good rows) BadChunkSet (Ok (record { head = h; rows = rows })))
    go false g =
        check-false (tally_good (all_noted no_tally rows)) _ _ (tally-good rows few ∙ g)
        ∙ sym (ap (listed_as s) (check-false (chunks_good rows) BadChunkSet _ g))
    go true g =
        let c = good-chunked rows g in
        check-true (tally_good (all_noted no_tally rows)) _ _ (tally-good rows few ∙ g)
        ∙ (λ i. Ok
        (record {
          head = h;
          first = header_of (place_of h.form s) s;
          fmt = all-fmt rows c.one_fmt i;
          audio = all-audio rows c.one_data i;
          fact = all-fact rows c.fact i;
          count = length rows;
        }))
        ∙ sym (ap (listed_as s) (check-true (chunks_good rows) BadChunkSet (Ok (record { head = h; rows = rows })) g))

-- ---- the outcomes of the listing past its head

module _ (s : List ℕ) (o : Start) (b : Starts s (head_of s) o) where
  few : (headers o.head s).end ≡ Ok tt → length (headers o.head s).rows ≤ LIMIT
  unfolding headers
  few e = (walk-laid (rule o.head s) s LIMIT 12 e).few

  pub list-refused : (first : Header) (n : ℕ) (r : Refusal) → tally_as first n no_tally (rest_of o s) ≡ Err r
      → listing s ≡ Err r
  list-refused first n r e =
      listing-walk s o.head r b.head ((beside s o b).end ∙ refused-told first n no_tally (rest_of o s) r e)

  pub list-noted : (n : Noted) → tally_as (header_of o.place s) (LIMIT - o.room) no_tally (rest_of o s) ≡ Ok n
      → chunks_as o.head n ≡ listed_as s (listing s)
  list-noted n e =
      let t = noted-told _ _ _ _ n e in
      let k = beside s o b in
      ap (chunks_as o.head)
      (t.is
      ∙ (λ i. record { tally = sym k.tally i; first = header_of (b.place i) s; count = sym k.count i }))
      ∙ chunks-all s o.head (headers o.head s).rows (few (k.end ∙ t.end))
      ∙ sym (ap (listed_as s) (listing-rows s o.head b.head (k.end ∙ t.end)))

  -- no header past ds64
  list-none : o.place - 8 ≡ length s → listing s ≡ Err BadChunkSet
  unfolding all_noted no_tally tally_good
  list-none p =
      let k = beside s o b in
      let e : rest_of o s ≡ record { rows = []; end = Ok tt } =
      walk-stop (rule o.head s) s o.room (o.place - 8) (Ok tt) (step_end (rule o.head s) s o.room (o.place - 8) p) in
      let rows = (headers o.head s).rows in
      listing-rows s o.head b.head (k.end ∙ ap (λ (w : Walked). w.end) e)
      ∙ check-false (chunks_good rows) BadChunkSet _
      (sym (tally-good rows (few (k.end ∙ ap (λ (w : Walked). w.end) e))) ∙ ap tally_good k.tally ∙ ap (λ (w : Walked). tally_good (all_noted no_tally w.rows)) e)

  -- 1 to 7 bytes past ds64
  list-cut : o.place - 8 < length s → length s < o.place → listing s ≡ Err CutHeader
  list-cut p q =
      let at = o.place - 8 in
      let e : rest_of o s ≡ record { rows = []; end = Err CutHeader } =
      walk-stop (rule o.head s) s o.room at (Err CutHeader)
      (step_cut (rule o.head s) s o.room at p (omega arith)) in
      listing-walk s o.head CutHeader b.head ((beside s o b).end ∙ ap (λ (w : Walked). w.end) e)

  pub list-bare : length s < o.place → listing s ≡ Err (bare_as (length s) (o.place - 8))
  unfolding bare_as
  list-bare q =
      picked (λ (r : Refusal). listing s ≡ Err r) (eqb (o.place - 8) (length s)) _ _
      (λ e. list-none (eqb-true (o.place - 8) (length s) e))
      (λ e. list-cut (below (eqb-false (o.place - 8) (length s) e)) q)
    where
      below : (o.place - 8 ≡ length s → ⊥) → o.place - 8 < length s
      below n = omega (arith, (starts-due s o b).inside, n)

-- ---- what a listing tells

pub listed-refused : (s : List ℕ) (x : Answer Listing) (r : Refusal) → listed_as s x ≡ Err r → x ≡ Err r
unfolding listed_as
listed-refused s (Err q) r e = ap Err (refused-inj _ _ e)
listed-refused s (Ok l) r e = absurd (refused-given r _ (sym e))

pub record Keeps (s : List ℕ) (x : Answer Listing) (k : code.Listing) : Type 0 where
  pub listing : Listing
  pub is : x ≡ Ok listing
  pub kept : k ≡ kept_of s listing

pub listed-given : (s : List ℕ) (x : Answer Listing) (k : code.Listing) → listed_as s x ≡ Ok k → Keeps s x k
unfolding listed_as
listed-given s (Err q) k e = absurd (refused-given q k e)
listed-given s (Ok l) k e = record { listing = l; is = refl; kept = sym (given-inj _ _ e) }

abbrev pub keeps : (s : List ℕ) (k : code.Listing) → Fresh s k → Keeps s (listing s) k
keeps s k f = listed-given s (listing s) k f
