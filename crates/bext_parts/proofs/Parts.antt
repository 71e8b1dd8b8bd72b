-- What a part holds says whether its rule is kept, and how long it is.
-- Assumes nothing.
use mathlib.Core.Path.{◌≡◌, refl, sym, ◌∙◌}
use mathlib.Core.Bool.{Bool, true, false}
use Prim.Native.Nat.{ℕ}
use Rattle.std.specs.Prelude.{Option, Some, None}
use Rattle.bext_parts.specs.Code.{part_of}

-- a part that keeps its rule, and its length
pub record Kept (rule : Bool) (length found : ℕ) : Type 0 where
  pub holds : rule ≡ true
  pub is : found ≡ length

pub part-good : {r : Option ℕ} (b : Bool) (n m : ℕ) → r ≡ part_of b n → r ≡ Some m → Kept b n m
unfolding part_of
part-good true n m e f = record { holds = refl; is = cc }
part-good false n m e f = let z : None ≡ Some m = sym e ∙ f in cc

pub part-broken : {r : Option ℕ} (b : Bool) (n : ℕ) → r ≡ part_of b n → r ≡ None → b ≡ false
unfolding part_of
part-broken true n e f = let z : Some n ≡ None = sym e ∙ f in cc
part-broken false n e f = refl
