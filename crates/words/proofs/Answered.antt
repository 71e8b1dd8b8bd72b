-- How an answer into lent words is met: too few words, or the number and the words.
-- Assumes nothing.
use mathlib.Core.Path.{◌≡◌, refl, sym, ap, ◌∙◌}
use mathlib.Core.Bool.{Bool, true, false}
use mathlib.Core.List.{List, ◌++◌}
use Prim.Native.Nat.{ℕ, ◌≤◌, ◌<◌}
use lib.ListN.{length, drop}
use lib.Seq.{sets}
use lib.Dec.{leb}
use native.Mathlib.Omega.{arith}
use borrow.Author.Tests.{le-leb, lt-leb, leb-true}
use Rattle.le.specs.Choice.{pick}
use Rattle.chunk.proofs.Checks.{pick_true, pick-false}
use Rattle.chunk.proofs.Outputs.{puts-front}
use Rattle.words.specs.Answers.{Answers}

pub short : (least n : ℕ) (new w : List ℕ) → length w < least → Answers least n new w 15 w
short least n new w h =
    let e = lt-leb least (length w) h in
    record { returns = sym (pick-false _ _ _ e); words = sym (pick-false _ _ _ e) }

pub answered : (least n : ℕ) (new w w' : List ℕ) (r : ℕ) → least ≤ length w → r ≡ n → w' ≡ new → Answers least n new w r w'
answered least n new w w' r h p q =
    let e = le-leb least (length w) h in
    record { returns = p ∙ sym (pick_true _ _ _ e); words = q ∙ sym (pick_true _ _ _ e) }

-- values over the start of the words
pub stored : (v w x : List ℕ) (k n : ℕ) → length v ≡ k → k ≤ length w → x ≡ v → Answers k n (sets w 0 v) w n (x ++ drop k w)
stored v w x k n l h e =
    answered k n _ w _ n h refl (ap (λ (y : List ℕ). y ++ drop k w) e ∙ ap (λ (j : ℕ). v ++ drop j w) (sym l) ∙ sym (puts-front w v (rw l h)))

-- an answer by its number and its words under other names
pub same : (least n m : ℕ) (new old w w' : List ℕ) (r : ℕ) → n ≡ m → new ≡ old → Answers least n new w r w' → Answers least m old w r w'
same least n m new old w w' r e f a =
    record {
      returns = a.returns ∙ ap (λ (k : ℕ). pick (leb least (length w)) k 15) e;
      words = a.words ∙ ap (λ (l : List ℕ). pick (leb least (length w)) l w) f;
    }

-- ---- what an answer says

-- with words enough, the answer's number and its words
pub enough : (least n : ℕ) (new w : List ℕ) (r : ℕ) (w' : List ℕ) → least ≤ length w → Answers least n new w r w' → (r ≡ n) × (w' ≡ new)
enough least n new w r w' h a =
    let e = le-leb least (length w) h in
    (a.returns ∙ pick_true _ _ _ e, a.words ∙ pick_true _ _ _ e)

-- with too few, 15 and the words as they were
pub too_few : (least n : ℕ) (new w : List ℕ) (r : ℕ) (w' : List ℕ) → length w < least → Answers least n new w r w' → (r ≡ 15) × (w' ≡ w)
too_few least n new w r w' h a =
    let e = lt-leb least (length w) h in
    (a.returns ∙ pick-false _ _ _ e, a.words ∙ pick-false _ _ _ e)

-- a number of 0 comes with words enough
pub record Good (least n : ℕ) (new w w' : List ℕ) : Type 0 where
  pub long : least ≤ length w
  pub number : n ≡ 0
  pub words : w' ≡ new

pub good : (least n : ℕ) (new w w' : List ℕ) → Answers least n new w 0 w' → Good least n new w w'
good least n new w w' a = cases (leb least (length w)) refl a.returns a.words
  where
    cases : (b : Bool) → leb least (length w) ≡ b → 0 ≡ pick b n 15 → w' ≡ pick b new w → Good least n new w w'
    cases true e f g =
        record { long = leb-true least (length w) e; number = sym (f ∙ pick_true _ _ _ refl); words = g ∙ pick_true _ _ _ refl }
    cases false e f g = let z : ◌≡◌ {A = ℕ} 0 15 = f ∙ pick-false _ _ _ refl in absurd (omega (arith, z))
