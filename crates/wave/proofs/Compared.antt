-- Rows compared with words, in the middle of a loop: what is due to be compared from here on. The invariant of the loops that
-- read a listed file once more and compare, with its moves: the start, a row, and the end.
use mathlib.Core.Path.{◌≡◌, refl, sym, ap, ◌∙◌}
use mathlib.Core.Bool.{true, false}
use mathlib.Core.List.{List, ◌∷◌}
use Prim.Native.Nat.{ℕ, ◌+◌, ◌*◌, ◌%◌, ◌≤◌, ◌<◌}
use native.Mathlib.Omega.{arith}
use lib.ListN.{length, drop, get_or}
use lib.Seq.{drop-drop}
use lib.Dec.{eqb}
use borrow.Author.Tests.{eq-eqb, ne_eqb}
use Rattle.le.specs.Choice.{pick}
use Rattle.chunk.specs.declared.Entry.{Entry}
use Rattle.chunk.specs.Tables.{all_words, begins, row_words, table_words}
use Rattle.chunk.proofs.Begins.{begins-short, begins-at, begins-append}
use Rattle.chunk.proofs.Checks.{pick_true, pick-false}
use Rattle.chunk.proofs.Filled.{all-length}
use Rattle.form.specs.declared.Head.{Head}
use Rattle.listing.specs.Listings.{headers}
use Rattle.listing.specs.Listings.{headers}
use Rattle.listing.specs.Code.{rule}
use Rattle.wave.specs.Code.{Ended, EntryAt}
use Rattle.wave.proofs.Again.{same-entry, Again, again-start, Turn, again-turn, again-end}

-- the words past the first begin with all rows where they begin, from here on, with those that are left
pub record Comparing (h : Head) (s t : List ℕ) (n place i : ℕ) : Type 0 where
  pub left : List Entry
  pub again : Again (rule h s) s n place i left
  pub words : begins (all_words (headers h s).rows) (drop 1 t) ≡ begins (all_words left) (drop (1 + 4 * i) t)

-- the words are too few, or another number comes first
pub too_few : (rows : List Entry) (t : List ℕ) (n stop : ℕ) → n ≡ length rows → stop ≡ 1 + 4 * n → length t < stop
    → begins (table_words rows) t ≡ false
unfolding table_words
too_few rows t n stop e k h = begins-short (length rows ∷ all_words rows) t (omega (arith, e, k, h, all-length rows))

count-begins : (rows : List Entry) (t : List ℕ) → 1 ≤ length t
    → begins (table_words rows) t ≡ pick (eqb (get_or t 0 0) (length rows)) (begins (all_words rows) (drop 1 t)) false
unfolding table_words
count-begins rows t h = begins-at (length rows) (all_words rows) t 0 h

pub other-count : (rows : List Entry) (t : List ℕ) (n : ℕ) → n ≡ length rows → 1 ≤ length t → (get_or t 0 0 ≡ n → ⊥)
    → begins (table_words rows) t ≡ false
other-count rows t n e l h = count-begins rows t l ∙ pick-false _ _ _ (ne_eqb _ _ (λ q. h (q ∙ sym e)))

pub same_count : (rows : List Entry) (t : List ℕ) (n : ℕ) → n ≡ length rows → 1 ≤ length t → get_or t 0 0 ≡ n
    → begins (table_words rows) t ≡ begins (all_words rows) (drop 1 t)
same_count rows t n e l h = count-begins rows t l ∙ pick_true _ _ _ (eq-eqb _ _ (h ∙ e))

pub comparing-start : (h : Head) (s t : List ℕ) (n : ℕ) → Ended h s n → Comparing h s t n 20 0
comparing-start h s t n e = record { left = (headers h s).rows; again = again-start h s n e; words = refl }

module _ (h : Head) (s t : List ℕ) (n place i : ℕ) (f : Comparing h s t n place i) where
  pub comparing-turn : i < n → Turn (rule h s) s n place i f.left
  comparing-turn = again-turn (rule h s) s n place i f.left f.again

  module _ (k : i < n) (e : Entry) (a : EntryAt (rule h s) s place e) where
    abbrev u : Turn (rule h s) s n place i f.left
    u = comparing-turn k

    -- the row decides, and then the rest does
    row_first : begins (all_words (headers h s).rows) (drop 1 t)
        ≡ pick (begins (row_words e) (drop (1 + 4 * i) t)) (begins (all_words u.rest) (drop (1 + 4 * (i + 1)) t)) false
    unfolding all_words row_words
    row_first =
        let y : 1 + 4 * i + 4 ≡ 1 + 4 * (i + 1) = omega arith in
        f.words ∙ ap (λ (l : List Entry). begins (all_words l) (drop (1 + 4 * i) t)) u.split
        ∙ begins-append (row_words u.entry) (all_words u.rest) (drop (1 + 4 * i) t)
        ∙ ap (λ (x : Entry). pick (begins (row_words x) (drop (1 + 4 * i) t)) (begins (all_words u.rest) (drop 4 (drop (1 + 4 * i) t))) false) (sym (same-entry u.at a))
        ∙ ap (λ (l : List ℕ). pick (begins (row_words e) (drop (1 + 4 * i) t)) (begins (all_words u.rest) l) false) (drop-drop 4 (1 + 4 * i) t ∙ ap (λ (j : ℕ). drop j t) y)

    pub comparing-other : begins (row_words e) (drop (1 + 4 * i) t) ≡ false → begins (all_words (headers h s).rows) (drop 1 t) ≡ false
    comparing-other q = row_first ∙ pick-false _ _ _ q

    pub comparing-next : (to : ℕ) → begins (row_words e) (drop (1 + 4 * i) t) ≡ true → to ≡ place + e.size + e.size % 2 + 8
        → Comparing h s t n to (i + 1)
    comparing-next to q at =
        record {
          left = u.rest;
          again = u.after to (at ∙ ap (λ (x : Entry). place + x.size + x.size % 2 + 8) (same-entry u.at a));
          words = row_first ∙ pick_true _ _ _ q;
        }

  pub comparing-end : n ≤ i → begins (all_words (headers h s).rows) (drop 1 t) ≡ true
  unfolding all_words begins
  comparing-end k = f.words ∙ ap (λ (l : List Entry). begins (all_words l) (drop (1 + 4 * i) t)) (again-end f.again k)
