-- The checks of a definition, one after the other: a link of the chain that answers is inverted by one law, and built by
-- one. A caller cites these and never opens the combinators.
-- Assumes nothing.
use mathlib.Core.Path.{◌≡◌, refl, sym}
use mathlib.Core.Bool.{Bool, true, false, ◌&&◌, ◌||◌}
use mathlib.Core.Logic.{◌⊎◌, inl, inr}
use Prim.Native.Nat.{ℕ}
use native.Mathlib.Omega.{arith}
use Rattle.le.specs.Choice.{pick}
use Rattle.chunk.specs.declared.Refusal.{Refusal}
use Rattle.chunk.specs.Refusals.{Answer, Err, Ok, check, and_then}

-- ---- answers

pub given-inj : {A : Type 0} (a b : A) → ◌≡◌ {A = Answer A} (Ok a) (Ok b) → a ≡ b
given-inj a b e = cc

pub refused-inj : {A : Type 0} (r q : Refusal) → ◌≡◌ {A = Answer A} (Err r) (Err q) → r ≡ q
refused-inj r q e = cc

pub refused-given : {A : Type 0} (r : Refusal) (a : A) → ◌≡◌ {A = Answer A} (Err r) (Ok a) → ⊥
refused-given r a e = let z : ◌≡◌ {A = ℕ} 0 1 = cc in omega arith

-- ---- a choice

pub pick_true {ℓ} : {X : Type ℓ} (b : Bool) (x y : X) → b ≡ true → pick b x y ≡ x
unfolding pick
pick_true b x y e = rw e

pub pick-false {ℓ} : {X : Type ℓ} (b : Bool) (x y : X) → b ≡ false → pick b x y ≡ y
unfolding pick
pick-false b x y e = rw e

-- what holds of either outcome, from what the test then says
pub picked {ℓ} : {X : Type ℓ} (P : X → Type 0) (b : Bool) (x y : X) → (b ≡ true → P x) → (b ≡ false → P y) → P (pick b x y)
unfolding pick
picked P true x y f g = f refl
picked P false x y f g = g refl

pub true-false : (b : Bool) → b ≡ true → b ≡ false → ⊥
true-false b p q = let z : ◌≡◌ {A = ℕ} 0 1 = cc in omega arith

-- ---- a check

pub check-given : {A : Type 0} (b : Bool) (r : Refusal) (k : Answer A) (a : A)
    → check b r k ≡ Ok a → (b ≡ true) × (k ≡ Ok a)
unfolding check
check-given true r k a e = (refl, e)
check-given false r k a e = absurd (refused-given r a e)

pub check-true : {A : Type 0} (b : Bool) (r : Refusal) (k : Answer A) → b ≡ true → check b r k ≡ k
unfolding check
check-true b r k e = rw e

pub check-false : {A : Type 0} (b : Bool) (r : Refusal) (k : Answer A) → b ≡ false → check b r k ≡ Err r
unfolding check
check-false b r k e = rw e

-- a refusal is its own, or that of what follows
pub check-refused : {A : Type 0} (b : Bool) (r : Refusal) (k : Answer A) (q : Refusal) → check b r k ≡ Err q
    → (q ≡ r) ⊎ (k ≡ Err q)
unfolding check
check-refused true r k q e = inr e
check-refused false r k q e = inl (sym (refused-inj r q e))

-- ---- then

pub and_then-given : {A B : Type 0} (x : Answer A) (k : A → Answer B) (b : B)
    → and_then x k ≡ Ok b → (a : A) × (x ≡ Ok a) × (k a ≡ Ok b)
unfolding and_then
and_then-given (Err r) k b e = absurd (refused-given r b e)
and_then-given (Ok a) k b e = (a, refl, e)

pub and_then-at : {A B : Type 0} (x : Answer A) (k : A → Answer B) (a : A) → x ≡ Ok a → and_then x k ≡ k a
unfolding and_then
and_then-at x k a e = rw e

pub and_then-refused : {A B : Type 0} (x : Answer A) (k : A → Answer B) (r : Refusal) → x ≡ Err r → and_then x k ≡ Err r
unfolding and_then
and_then-refused x k r e = rw e

-- ---- a rule of `every`, and the rules after it

pub rule_and : (b c : Bool) → pick b c false ≡ true → (b ≡ true) × (c ≡ true)
unfolding pick
rule_and true c e = (refl, e)
rule_and false c e = absurd (true-false false e refl)

-- ---- tests joined

pub and-true : (a b : Bool) → a && b ≡ true → (a ≡ true) × (b ≡ true)
and-true true b e = (refl, e)
and-true false b e = absurd (true-false false e refl)

pub or-true : (a b : Bool) → (a ≡ false → b ≡ true) → a || b ≡ true
or-true true b h = refl
or-true false b h = h refl

pub or-false : (a b : Bool) → a || b ≡ true → a ≡ false → b ≡ true
or-false true b e f = absurd (true-false true refl f)
or-false false b e f = e
