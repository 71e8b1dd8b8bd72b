-- A source and its number tell each other: no two sources have one number, and each number is that of a source.
-- Assumes nothing.
use mathlib.Core.Path.{◌≡◌, refl, sym, ap, ◌∙◌}
use mathlib.Core.Bool.{Bool, true, false}
use Prim.Native.Nat.{ℕ, ◌+◌, ◌-◌, ◌≤◌}
use native.Mathlib.Omega.{arith}
use lib.Dec.{eqb}
use borrow.Author.Tests.{eq-eqb, ne_eqb, eqb-true, eqb-false}
use Rattle.chunk.specs.declared.Source.{Source}
use Rattle.chunk.specs.declared.Source.TheVariants.{Own, DataSize, EntryAt}
use Rattle.chunk.specs.Sources.{source_number, source_of}
use Rattle.chunk.proofs.Checks.{pick_true, pick-false}

-- one law for each outcome

pub source-own : (n : ℕ) → n ≡ 0 → source_of n ≡ Own
unfolding source_of
source-own n e = pick_true _ _ _ (eq-eqb n 0 e)

pub source-data : (n : ℕ) → n ≡ 1 → source_of n ≡ DataSize
unfolding source_of
source-data n e = pick-false _ _ _ (ne_eqb n 0 (omega arith)) ∙ pick_true _ _ _ (eq-eqb n 1 e)

pub source-entry : (n : ℕ) → 2 ≤ n → source_of n ≡ EntryAt (n - 2)
unfolding source_of
source-entry n h = pick-false _ _ _ (ne_eqb n 0 (omega arith)) ∙ pick-false _ _ _ (ne_eqb n 1 (omega arith))

pub source-back : (s : Source) → source_of (source_number s) ≡ s
source-back Own = source-own 0 refl
source-back DataSize = source-data 1 refl
source-back (EntryAt p) = source-entry (2 + p) (omega arith) ∙ ap EntryAt (let q : 2 + p - 2 ≡ p = omega arith in q)

pub number-back : (n : ℕ) → source_number (source_of n) ≡ n
number-back n = go (eqb n 0) refl
  where
    more : (b : Bool) → eqb n 1 ≡ b → (n ≡ 0 → ⊥) → source_number (source_of n) ≡ n
    more true h k = ap source_number (source-data n (eqb-true n 1 h)) ∙ sym (eqb-true n 1 h)
    more false h k =
        let l : n ≡ 1 → ⊥ = eqb-false n 1 h in
        ap source_number (source-entry n (omega arith)) ∙ (let q : 2 + (n - 2) ≡ n = omega arith in q)

    go : (b : Bool) → eqb n 0 ≡ b → source_number (source_of n) ≡ n
    go true h = ap source_number (source-own n (eqb-true n 0 h)) ∙ sym (eqb-true n 0 h)
    go false h = more (eqb n 1) refl (eqb-false n 0 h)
