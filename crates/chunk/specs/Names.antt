-- The 4-byte names of the format, each as the little-endian number of its bytes.
use Rattle.std.specs.Prelude.{ℕ}

-- forms: bytes 0 to 3 of a file, and bytes 8 to 11
abbrev pub RIFF : ℕ
RIFF = 0x46464952

abbrev pub RF64 : ℕ
RF64 = 0x34364652

abbrev pub BW64 : ℕ
BW64 = 0x34365742

abbrev pub WAVE : ℕ
WAVE = 0x45564157

-- chunks: ds64, JUNK, "fmt " with its space, data, fact, bext, chna
abbrev pub DS64 : ℕ
DS64 = 0x34367364

abbrev pub JUNK : ℕ
JUNK = 0x4b4e554a

abbrev pub FMT : ℕ
FMT = 0x20746d66

abbrev pub DATA : ℕ
DATA = 0x61746164

abbrev pub FACT : ℕ
FACT = 0x74636166

abbrev pub BEXT : ℕ
BEXT = 0x74786562

abbrev pub CHNA : ℕ
CHNA = 0x616e6863
