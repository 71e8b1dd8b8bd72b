-- What only the code's contracts need.
use Rattle.std.specs.Prelude.{◌≡◌, ℕ, ◌≤◌, List, length}
use Rattle.fmt.specs.declared.Format.{Format}
use Rattle.file.specs.Code.{file_size}

-- what storing a file of this size asks, beside room for it: a fmt payload of 16 bytes, and a block to count frames by
pub record Ready (size : ℕ) (f : Format) (b c a : List ℕ) : Type 0 where
  pub fmt : f.size ≡ 16
  pub block : 1 ≤ f.block
  pub sized : size ≡ file_size (length b) (length c) (length a)
