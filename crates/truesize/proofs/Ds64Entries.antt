-- What ds64's entries say, entry by entry, of the file's bytes.
-- Assumes nothing.
use mathlib.Core.Path.{◌≡◌, ◌∙◌, ap}
use mathlib.Core.List.{List}
use Prim.Native.Nat.{ℕ, zero, suc, ◌+◌, ◌-◌, ◌<◌}
use native.Mathlib.Omega.{arith}
use mathlib.Core.Bool.{true, false, not}
use lib.ListN.{drop}
use lib.Seq.{drop-drop}
use borrow.Author.Tests.{eq-eqb, ne_eqb}
use Rattle.le.specs.Number.{number, field}
use Rattle.chunk.specs.declared.Refusal.TheVariants.{UnknownSize, BadDs64}
use Rattle.chunk.specs.Refusals.{Err, Ok}
use Rattle.chunk.specs.Fields.{ONES}
use Rattle.chunk.specs.Walks.{field_size}
use Rattle.chunk.proofs.Checks.{check-true, check-false, pick_true, pick-false}
use Rattle.form.specs.declared.Head.{Head}
use Rattle.form.specs.Forms.{ENTRY}
use Rattle.truesize.specs.Sizes.{Ds64Entry, entries_in, size_at, entry_size, stray_ds64, ones_size, true_size}

-- the entry at a place, which has this position, has the name
pub entry_here : (p name left at : ℕ) (s : List ℕ) → 0 < left → number 4 at s ≡ name
    → entry_size p name (entries_in left (drop at s)) ≡ Ok (size_at p (number 8 (at + 4) s))
unfolding entries_in entry_size number field
entry_here p name zero at s h e = absurd (omega arith)
entry_here p name (suc left) at s h e = rw (eq-eqb (number 4 at s) name e, drop-drop 4 at s)

-- it has another name, or is no entry
pub entry-later : (p name left next at : ℕ) (s : List ℕ) → next ≡ left - 1 → (number 4 at s ≡ name → ⊥)
    → entry_size p name (entries_in left (drop at s)) ≡ entry_size (p + 1) name (entries_in next (drop (at + ENTRY) s))
unfolding entries_in entry_size number field
entry-later p name zero next at s e n = rw e
entry-later p name (suc left) next at s e n =
    rw (ne_eqb (number 4 at s) name n, drop-drop ENTRY at s)
    (ap (λ (k : ℕ). entry_size (p + 1) name (entries_in k (drop (at + ENTRY) s))) (let q : left ≡ next = omega (arith, e) in q))

-- no entry is left
pub entry-none : (p name left : ℕ) (s : List ℕ) → left ≡ 0 → entry_size p name (entries_in left s) ≡ Err UnknownSize
unfolding entries_in entry_size
entry-none p name left s e = rw e

-- ---- the scan's size rule, one law for each outcome

pub true-stray : (h : Head) (ks : List Ds64Entry) (at name own : ℕ) → stray_ds64 h.form at name ≡ true
    → true_size h ks at name own ≡ Err BadDs64
unfolding true_size
true-stray h ks at name own e = check-false _ _ _ (ap not e)

pub true-field : (h : Head) (ks : List Ds64Entry) (at name own : ℕ) → stray_ds64 h.form at name ≡ false → (own ≡ ONES → ⊥)
    → true_size h ks at name own ≡ Ok (field_size own)
unfolding true_size
true-field h ks at name own e n = check-true _ _ _ (ap not e) ∙ pick-false _ _ _ (ne_eqb own ONES n)

pub true-ones : (h : Head) (ks : List Ds64Entry) (at name own : ℕ) → stray_ds64 h.form at name ≡ false → own ≡ ONES
    → true_size h ks at name own ≡ ones_size h.form h.ds64 ks name
unfolding true_size
true-ones h ks at name own e o = check-true _ _ _ (ap not e) ∙ pick_true _ _ _ (eq-eqb own ONES o)
