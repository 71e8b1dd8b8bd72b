-- What only the code's contracts need.
use Rattle.std.specs.Prelude.{ℕ, List, replicate}

-- a pattern of n hex digits
abbrev pub hexes : ℕ → List ℕ
hexes n = replicate n 0x78
