-- The entries' promises, one law for each way that they end.
-- Assumes nothing.
use mathlib.Core.Path.{◌≡◌, refl, sym, ap, ◌∙◌, subst}
use mathlib.Core.Bool.{◌||◌}
use mathlib.Core.List.{List, [], ◌∷◌, ◌++◌}
use Prim.Native.Nat.{ℕ, zero, suc, ◌+◌, ◌*◌, ◌≤◌, ◌<◌}
use native.Mathlib.Omega.{arith}
use lib.ListN.{length, set, drop, length-set}
use lib.Dec.{eqb, leb}
use borrow.Author.Tests.{le-leb, lt-leb, leb-true}
use Rattle.le.specs.Number.{number}
use Rattle.le.specs.Choice.{pick}
use Rattle.chunk.specs.declared.Entry.{Entry}
use Rattle.chunk.specs.declared.Refusal.{Refusal}
use Rattle.chunk.specs.declared.Refusal.TheVariants.{ShortOutput}
use Rattle.chunk.specs.Refusals.{Answer, Err, Ok, Verdict, verdict_of}
use Rattle.chunk.specs.Names.{WAVE}
use Rattle.chunk.specs.Fields.{ONES}
use Rattle.chunk.specs.Tables.{all_words, table_words, tabled, table_of, LIMIT, WORDS}
use Rattle.chunk.specs.Walks.{Walked, own_size}
use Rattle.chunk.proofs.Checks.{pick_true, pick-false, check-given}
use Rattle.chunk.proofs.Laid.{laid-walk}
use Rattle.form.specs.declared.Head.{Head}
use Rattle.form.specs.Forms.{ds64_at, whole_form, open_for32, ENTRIES, LEAST, ENTRY}
use Rattle.form.proofs.Heads.{Opened, wide-head, ds64-rules}
use Rattle.truesize.specs.Code.{EntriesFit}
use Rattle.listing.specs.declared.Listing as code
use Rattle.listing.specs.Listings.{Listing, headers, listing}
use Rattle.listing.specs.Code.{kept_of, Fresh}
use Rattle.listing.proofs.Checked.{listing-checked}
use Rattle.listing.proofs.Listings.{keeps}
use Rattle.wave.specs.Scans.{Scan, scan, rows_of, listed_rows, walk_from, walk32}
use Rattle.wave.specs.declared.Tabled.{Tabled}
use Rattle.wave.specs.Words.{Done, ScanDone, ListDone, WalkDone}
use Rattle.wave.specs.Code.{WalkStored, Ended}
use Rattle.wave.proofs.Scanned.{scan-scanned}
use Rattle.wave.proofs.Again.{ended-few}
use Rattle.wave.proofs.Stored.{none-tabled}

-- ---- an accepted file can be read once more

-- a 64-bit form's entries lie in the file, and are few
pub entries_fit : (s : List ℕ) (h : Head) → Opened s h → EntriesFit h s
unfolding ds64_at
entries_fit s h o =
    record {
      inside = λ w.
          let g = wide-head h.form s h w o.head in
          let r = ds64-rules _ _ _ _ g.0 in
          subst (λ (x : Head). 20 + LEAST + ENTRY * x.ds64.count ≤ length s) (sym g.1) (omega (arith, r.holds, r.ends));
      few = λ w.
          let g = wide-head h.form s h w o.head in
          subst (λ (x : Head). x.ds64.count ≤ ENTRIES) (sym g.1) (ds64-rules _ _ _ _ g.0).few;
    }

-- its rows are those of its walk
scan-headers : (s : List ℕ) (a : Scan) → scan s ≡ Ok a → headers a.head s ≡ record { rows = a.rows; end = Ok tt }
unfolding headers
scan-headers s a e = let l = (scan-scanned s a e).listed in laid-walk LIMIT l.laid l.few

pub accepted-ended : (s : List ℕ) (h : Head) (n : ℕ) (a : Scan) → scan s ≡ Ok a → h ≡ a.head → n ≡ length a.rows → Ended h s n
accepted-ended s h n a e p q =
    let k = scan-headers s a e in
    subst (λ (x : Head). Ended x s n) (sym p)
    (record {
      fit = entries_fit s a.head (scan-scanned s a e).listed.opened;
      end = ap (λ (x : Walked). x.end) k;
      count = q ∙ sym (ap (λ (x : Walked). length x.rows) k);
    })

-- ---- and so can a listed one

module _ (s : List ℕ) (k : code.Listing) (f : Fresh s k) where
  pub fresh-headers : headers k.head s ≡ record { rows = (keeps s k f).listing.rows; end = Ok tt }
  unfolding headers kept_of
  fresh-headers =
      let l = listing-checked s (keeps s k f).listing (keeps s k f).is in
      ap (λ (x : code.Listing). headers x.head s) (keeps s k f).kept ∙ laid-walk LIMIT l.laid l.few

  pub fresh-ended : Ended k.head s k.count
  unfolding kept_of
  fresh-ended =
      let o = (listing-checked s (keeps s k f).listing (keeps s k f).is).opened in
      let h = ap (λ (x : code.Listing). x.head) (keeps s k f).kept in
      record {
        fit = subst (λ (x : Head). EntriesFit x s) (sym h) (entries_fit s (keeps s k f).listing.head o);
        end = ap (λ (x : Walked). x.end) fresh-headers;
        count = ap (λ (x : code.Listing). x.count) (keeps s k f).kept ∙ sym (ap (λ (x : Walked). length x.rows) fresh-headers);
      }

-- ---- a table into words

module _ (v : Verdict) (rows : List Entry) (w : List ℕ) where
  -- the words are too few
  pub done-short : length w < WORDS → Done v rows w (Err ShortOutput) w
  done-short h =
      let e = lt-leb WORDS (length w) h in
      record { verdict = sym (pick-false _ _ _ e); words = sym (pick-false _ _ _ e) }

  -- they aren't
  done-stored : (r : Verdict) (w' : List ℕ) → WORDS ≤ length w → r ≡ v → w' ≡ tabled rows w → Done v rows w r w'
  done-stored r w' h p q =
      let e = le-leb WORDS (length w) h in
      record { verdict = p ∙ sym (pick_true _ _ _ e); words = q ∙ sym (pick_true _ _ _ e) }

-- a table stored into words whose first is 0 already
first-kept : (rows : List Entry) (w : List ℕ) → tabled rows (set w 0 0) ≡ tabled rows w
unfolding tabled table_words
first-kept rows w = ap (λ (l : List ℕ). table_words rows ++ l) (rest (1 + 4 * length rows) w (omega arith))
  where
    rest : (k : ℕ) (u : List ℕ) → 1 ≤ k → drop k (set u 0 0) ≡ drop k u
    rest zero u h = absurd (omega arith)
    rest (suc k) [] h = refl
    rest (suc k) (x ∷ u) h = refl

pub room-kept : (w : List ℕ) → WORDS ≤ length w → WORDS ≤ length (set w 0 0)
room-kept w h = omega (arith, h, length-set w 0 0)

-- there are words for the table of a listed file
pub ended-room : (h : Head) (s : List ℕ) (n : ℕ) → Ended h s n → (w : List ℕ) → WORDS ≤ length w → 1 + 4 * n ≤ length (set w 0 0)
ended-room h s n e w l = omega (arith, ended-few h s n e, room-kept w l)

-- into the words of the table of no chunks
pub done-value : (v : Verdict) (rows : List Entry) (t : Tabled) → Done v rows (table_of []).words t.verdict t.table.words
    → t ≡ record { table = table_of rows; verdict = v }
unfolding table_of tabled all_words pick
done-value v rows t d = λ i. record { table = record { words = d.words i }; verdict = d.verdict i }

-- ---- the scan

module _ (s w : List ℕ) where
  pub scan_refused : (r : Refusal) → WORDS ≤ length w → scan s ≡ Err r → ScanDone s w (Err r) (set w 0 0)
  unfolding verdict_of rows_of
  scan_refused r h q =
      done-stored _ _ w _ _ h (sym (ap verdict_of q))
      (none-tabled w (omega arith) ∙ sym (ap (λ (x : Answer Scan). tabled (rows_of x) w) q))

  pub scan-accepted : (h : Head) (a : Scan) (v : List ℕ) → WORDS ≤ length w → scan s ≡ Ok a → h ≡ a.head
      → v ≡ tabled (headers h s).rows (set w 0 0) → ScanDone s w (Ok tt) v
  unfolding verdict_of rows_of
  scan-accepted h a v l q p d =
      let k = ap (λ (x : Head). headers x s) p ∙ scan-headers s a q in
      done-stored _ _ w _ _ l (sym (ap verdict_of q))
      (d ∙ first-kept _ w ∙ ap (λ (x : Walked). tabled x.rows w) k ∙ sym (ap (λ (x : Answer Scan). tabled (rows_of x) w) q))

-- ---- the listing

module _ (s w : List ℕ) where
  pub list_refused : (r : Refusal) → WORDS ≤ length w → listing s ≡ Err r → ListDone s w (Err r) (set w 0 0)
  unfolding verdict_of listed_rows
  list_refused r h q =
      done-stored _ _ w _ _ h (sym (ap verdict_of q))
      (none-tabled w (omega arith) ∙ sym (ap (λ (x : Answer Listing). tabled (listed_rows x) w) q))

  pub list-listed : (k : code.Listing) (v : List ℕ) → WORDS ≤ length w → Fresh s k → v ≡ tabled (headers k.head s).rows (set w 0 0)
      → ListDone s w (Ok tt) v
  unfolding verdict_of listed_rows
  list-listed k v h f d =
      let q = (keeps s k f).is in
      done-stored _ _ w _ _ h (sym (ap verdict_of q))
      (d ∙ first-kept _ w ∙ ap (λ (x : Walked). tabled x.rows w) (fresh-headers s k f)
      ∙ sym (ap (λ (x : Answer Listing). tabled (listed_rows x) w) q))

-- ---- the 32-bit walk

pub verdict-refused : {A : Type 0} (x : Answer A) (r : Refusal) → verdict_of x ≡ Err r → x ≡ Err r
unfolding verdict_of
verdict-refused (Err q) r e = cc
verdict-refused (Ok a) r e = cc

verdict-given : (x : Answer ℕ) → verdict_of x ≡ Ok tt → (n : ℕ) × (x ≡ Ok n)
unfolding verdict_of
verdict-given (Err q) e = cc
verdict-given (Ok n) e = (n, refl)

-- what checks 1, 2 and 5 let through has its 12 bytes, and the walk starts behind them
pub record Opens32 (s : List ℕ) : Type 0 where
  pub long : 12 ≤ length s
  pub starts : open_for32 s ≡ Ok 12

pub open32-told : (s : List ℕ) → verdict_of (open_for32 s) ≡ Ok tt → Opens32 s
unfolding open_for32
open32-told s e =
    let v = verdict-given (open_for32 s) e in
    let c1 = check-given (leb 12 (length s)) _ _ v.0 v.1 in
    let c2 = check-given (eqb (number 4 8 s) WAVE) _ _ v.0 c1.1 in
    let c3 = check-given (eqb (number 4 4 s) ONES || whole_form (length s) (number 4 4 s)) _ _ v.0 c2.1 in
    record { long = leb-true 12 (length s) c1.0; starts = v.1 ∙ sym c3.1 }

module _ (s w : List ℕ) where
  pub walk_refused : (r : Refusal) → WORDS ≤ length w → open_for32 s ≡ Err r → WalkDone s w (Err r) (set w 0 0)
  unfolding walk32 walk_from
  walk_refused r h q =
      done-stored _ _ w _ _ h (sym (ap (λ (x : Answer ℕ). (walk_from x s).end) q))
      (none-tabled w (omega arith) ∙ sym (ap (λ (x : Answer ℕ). tabled (walk_from x s).rows w) q))

  pub walk-done : (r : Verdict) (v : List ℕ) → WORDS ≤ length w → open_for32 s ≡ Ok 12 → WalkStored own_size s (set w 0 0) r v
      → WalkDone s w r v
  unfolding walk32 walk_from
  walk-done r v h q d =
      done-stored _ _ w _ _ h (d.verdict ∙ sym (ap (λ (x : Answer ℕ). (walk_from x s).end) q))
      (d.words ∙ first-kept _ w ∙ sym (ap (λ (x : Answer ℕ). tabled (walk_from x s).rows w) q))
