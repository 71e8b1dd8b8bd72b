-- The 32-bit size field.
use Rattle.std.specs.Prelude.{ℕ}

-- document 01's "All ones": the field that holds no size
abbrev pub ONES : ℕ
ONES = 0xFFFFFFFF
