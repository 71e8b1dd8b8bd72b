-- Document 01, "fmt" and "Refusal numbers": the payload that a record is written as, or 16.
use Rattle.std.specs.Prelude.{ℕ, ◌*◌, Bool, List, [], ◌∷◌, ◌++◌, eqb, ltb}
use Rattle.le.specs.Number.{bytes}
use Rattle.le.specs.Choice.{pick, every}
use Rattle.chunk.specs.declared.Refusal.TheVariants.{BadRecord}
use Rattle.chunk.specs.Refusals.{Answer, Ok, check}
use Rattle.fmt.specs.declared.Format.{Format}
use Rattle.fmt.specs.Formats.{SUBFORMAT-LOW, SUBFORMAT-HIGH, record_good}

-- what 18 and 40 bytes have past the first 16: an extra length of 0; or of 22, valid bits, mask and subformat
unfoldable pub extra_bytes : Format → List ℕ
unfolding pick
extra_bytes f =
    pick (eqb f.size 18) (bytes 2 0)
    (pick (eqb f.size 40)
    (bytes 2 22 ++ (bytes 2 f.valid ++ (bytes 4 f.mask ++ (bytes 8 SUBFORMAT-LOW ++ bytes 8 SUBFORMAT-HIGH))))
    [])

-- "tag, channels, rate, bytes a second, block, bits"
unfoldable pub head_bytes : Format → List ℕ
head_bytes f =
    bytes 2 f.tag
    ++ (bytes 2 f.channels ++ (bytes 4 f.rate ++ (bytes 4 f.byterate ++ (bytes 2 f.block ++ bytes 2 f.bits))))

unfoldable pub format_bytes : Format → List ℕ
format_bytes f = head_bytes f ++ extra_bytes f

-- no field is too large for its bytes; the rules bound tag, bits and valid bits
unfoldable pub fields_fit : Format → Bool
unfolding every
fields_fit f =
    every
    (ltb f.channels 0x1_0000
    ∷ ltb f.rate 0x1_0000_0000
    ∷ ltb f.byterate 0x1_0000_0000
    ∷ ltb f.block 0x1_0000
    ∷ ltb f.mask 0x1_0000_0000
    ∷ [])

-- a record that could have been read, where "the writer demands rate x block exactly"
unfoldable pub writable : Format → Bool
unfolding every
writable f = every (fields_fit f ∷ record_good f ∷ eqb f.byterate (f.rate * f.block) ∷ [])

-- the payload to write, or 16
unfoldable pub format_out : Format → Answer (List ℕ)
unfolding check
format_out f = check (writable f) BadRecord (Ok (format_bytes f))
