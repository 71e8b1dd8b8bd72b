-- `bext_parts::rest_given` meets its contract: none stand for zeros, which are good with every version.
use mathlib.Core.Path.{◌≡◌, ◌∙◌, refl, sym}
use mathlib.Core.Bool.{Bool, true, false}
use lib.Dec.{eqb}
use lib.ListN.{length, replicate}
use Prim.Native.Nat.{ℕ}
use Rattle.le.specs.Choice.{pick}
use Rattle.bext_parts.specs.Parts.{all_zero, rest_good, rest_given, rest_of}
use Rattle.bext_parts.proofs.Texts.{zeros-zero}
use Rattle.bext_parts.proofs.rest_given.Goals as goal

-- zeros are good with every version
zeros : (version : ℕ) → rest_good version (replicate 254 0) ≡ true
unfolding rest_good
zeros version = which (eqb version 0)
  where
    which : (t : Bool) → pick t (all_zero (replicate 254 0)) true ≡ true
    which true = zeros-zero 254
    which false = refl

pub returns-then-is_empty : goal.returns-then-is_empty
unfolding rest_given rest_of
returns-then-is_empty c =
    let none : eqb (length c.args.rest.now) 0 ≡ true = sym c.is_empty.ensures ∙ c.if-is_empty.true in
    c.if-is_empty.true ∙ rw none (sym (zeros c.args.version))
