-- Document 01, "chna" (002 8.2): the identifiers of an entry, each by the pattern that 002 prints for it.
use Rattle.std.specs.Prelude.{ℕ, Bool, true, false, ◌&&◌, ◌||◌, List, [], ◌∷◌, replicate, eqb, leb}
use Prim.Native.Char.{code}
use Prim.Native.String.{String, [] as end, ◌∷◌ as ◌then◌}
use Rattle.le.specs.Choice.{pick}

-- "Either letter case is hex": 0 to 9, A to F, a to f
unfoldable pub is_hex : ℕ → Bool
is_hex b = leb 0x30 b && leb b 0x39 || leb 0x41 b && leb b 0x46 || leb 0x61 b && leb b 0x66

-- one byte by a pattern's character: x is a hex digit (002 8.2), every other character stands for itself
unfoldable pub fits_one : ℕ → ℕ → Bool
unfolding pick
fits_one p b = pick (eqb p 0x78) (is_hex b) (eqb b p)

-- bytes by a pattern, as many as it has characters
unfoldable pub fits : List ℕ → List ℕ → Bool
unfolding pick
fits [] [] = true
fits [] (b ∷ bs) = false
fits (p ∷ ps) [] = false
fits (p ∷ ps) (b ∷ bs) = pick (fits_one p b) (fits ps bs) false

-- the characters of a pattern
unfoldable pub codes : String → List ℕ
codes end = []
codes (c then s) = code c ∷ codes s

-- "UID `ATU_` and 8 hex digits"
abbrev pub UID : List ℕ
UID = codes "ATU_xxxxxxxx"

-- "reference `AT_`, 8 hex, `_`, 2 hex"
abbrev pub TRACK : List ℕ
TRACK = codes "AT_xxxxxxxx_xx"

-- "or `AC_`, 8 hex, `_00`"
abbrev pub CHANNEL : List ℕ
CHANNEL = codes "AC_xxxxxxxx_00"

-- "pack `AP_` and 8 hex"
abbrev pub PACK : List ℕ
PACK = codes "AP_xxxxxxxx"

-- "or 11 zeros"
abbrev pub NOPACK : List ℕ
NOPACK = replicate 11 0

-- "An unused entry is 40 zero bytes"
abbrev pub UNUSED : List ℕ
UNUSED = replicate 40 0
