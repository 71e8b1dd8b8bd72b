-- What only the code's contracts need.
use Rattle.std.specs.Prelude.{ℕ, suc, ◌+◌, ◌≤◌, ◌<◌, ◌≡◌, Bool, Option, Some, None, List, [], ◌∷◌, length, eqb}
use Rattle.std.specs.Bool.{beq}
use Rattle.le.specs.Choice.{pick}

-- what a part holds: so many bytes, where it keeps its rule
unfoldable pub part_of : Bool → ℕ → Option ℕ
unfolding pick
part_of good n = pick good (Some n) None

-- how many bytes, from the first on, are zero, or are not
unfoldable pub run : Bool → List ℕ → ℕ
unfolding pick
run zeros [] = 0
run zeros (b ∷ bs) = pick (beq (eqb b 0) zeros) (suc (run zeros bs)) 0

-- what is left of bytes past the blocks of n bytes that a run takes up
pub record Past (zeros : Bool) (n : ℕ) (s r : List ℕ) : Type 0 where
  pub short : length r ≤ length s
  pub same : run zeros s + length r ≡ run zeros r + length s
  pub near : run zeros r < n
