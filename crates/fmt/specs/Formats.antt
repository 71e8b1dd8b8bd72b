-- Document 01, "fmt" (000 A.2): the record that a payload holds, or 11.
use Rattle.std.specs.Prelude.{ℕ, ◌*◌, ◌/◌, Bool, true, false, ◌||◌, List, [], ◌∷◌, length, replicate, eqb, leb}
use Rattle.le.specs.Number.{number}
use Rattle.le.specs.Choice.{pick, every}
use Rattle.chunk.specs.declared.Refusal.TheVariants.{BadFmt}
use Rattle.chunk.specs.Refusals.{Answer, Err, Ok, check}
use Rattle.fmt.specs.declared.Format.{Format}

abbrev pub PCM : ℕ
PCM = 1

abbrev pub EXTENSIBLE : ℕ
EXTENSIBLE = 0xFFFE

-- the subformat "01 00 00 00 00 00 10 00 80 00 00 AA 00 38 9B 71", as two numbers of 8 bytes
abbrev pub SUBFORMAT-LOW : ℕ
SUBFORMAT-LOW = 0x0010_0000_0000_0001

abbrev pub SUBFORMAT-HIGH : ℕ
SUBFORMAT-HIGH = 0x719B_3800_AA00_0080

-- "16, 18 or 40 bytes, the record keeping which"; "tag, channels, rate, bytes a second, block, bits"; of 40 also "valid
-- bits" and "channel mask"
unfoldable pub record_in : List ℕ → Format
unfolding pick
record_in p =
    record {
      size = length p;
      tag = number 2 0 p;
      channels = number 2 2 p;
      rate = number 4 4 p;
      byterate = number 4 8 p;
      block = number 2 12 p;
      bits = number 2 14 p;
      valid = pick (eqb (length p) 40) (number 2 18 p) 0;
      mask = pick (eqb (length p) 40) (number 4 20 p) 0;
    }

-- "Tag 1 goes with 16 bytes, or 18"; "Tag 0xFFFE goes with 40 bytes"
unfoldable pub size_good : ℕ → ℕ → Bool
unfolding pick
size_good tag size =
    pick (eqb tag PCM) (eqb size 16 || eqb size 18) (pick (eqb tag EXTENSIBLE) (eqb size 40) false)

-- "Bits are 8, 16, 24 or 32."
unfoldable pub bits_good : ℕ → Bool
bits_good bits = eqb bits 8 || eqb bits 16 || eqb bits 24 || eqb bits 32

-- "Channels and rate are at least 1. .. Block is channels x bits / 8."
unfoldable pub samples_good : (channels rate block bits : ℕ) → Bool
unfolding every
samples_good channels rate block bits =
    every (leb 1 channels ∷ leb 1 rate ∷ bits_good bits ∷ eqb block (channels * bits / 8) ∷ [])

-- "valid bits (1 to bits)"
abbrev pub valid_bits : (bits valid : ℕ) → Bool
valid_bits bits valid = every (leb 1 valid ∷ leb valid bits ∷ [])

-- those of 40 bytes, and "channel mask (any)"; a shorter payload has neither, and its record zeros
unfoldable pub valid_good : (size bits valid mask : ℕ) → Bool
unfolding pick every
valid_good size bits valid mask = pick (eqb size 40) (valid_bits bits valid) (every (eqb valid 0 ∷ eqb mask 0 ∷ []))

-- the rules that a record shows
unfoldable pub record_good : Format → Bool
unfolding every
record_good f =
    every
    (size_good f.tag f.size
    ∷ samples_good f.channels f.rate f.block f.bits
    ∷ valid_good f.size f.bits f.valid f.mask
    ∷ [])

-- the rules of the bytes that a record does not keep: "18 with an extra length of 0"; "40 bytes and an extra length of
-- 22", and the subformat
unfoldable pub extra_good : List ℕ → Bool
unfolding pick every
extra_good p =
    pick (eqb (length p) 18) (eqb (number 2 16 p) 0)
    (pick (eqb (length p) 40)
    (every (eqb (number 2 16 p) 22 ∷ eqb (number 8 24 p) SUBFORMAT-LOW ∷ eqb (number 8 32 p) SUBFORMAT-HIGH ∷ []))
    true)

-- the record that a payload holds, or 11
unfoldable pub format_in : List ℕ → Answer Format
unfolding check
format_in p = check (extra_good p) BadFmt (check (record_good (record_in p)) BadFmt (Ok (record_in p)))

-- its values, as a C caller has them: the record's nine, or zeros
unfoldable pub fmt_values : Answer Format → List ℕ
fmt_values (Ok f) =
    f.size ∷ f.tag ∷ f.channels ∷ f.rate ∷ f.byterate ∷ f.block ∷ f.bits ∷ f.valid ∷ f.mask ∷ []
fmt_values (Err r) = replicate 9 0
