-- Document 01, "Writing and upgrading": the file that is written of a form, a format record, the payloads of bext and chna,
-- and audio; or 16 or 17.
use Rattle.std.specs.Prelude.{ℕ, ◌+◌, ◌/◌, ◌%◌, Bool, ◌&&◌, ◌||◌, List, [], ◌∷◌, ◌++◌, length, eqb, leb}
use Rattle.std.specs.Result.{is_ok}
use Rattle.le.specs.Choice.{every}
use Rattle.chunk.specs.declared.Refusal.TheVariants.{BadRecord, TooLarge}
use Rattle.chunk.specs.Refusals.{Answer, Ok, check}
use Rattle.chunk.specs.Names.{FMT, DATA, BEXT, CHNA}
use Rattle.form.specs.declared.Form.{Form}
use Rattle.form.specs.Forms.{is_wide, LEAST}
use Rattle.fmt.specs.declared.Format.{Format}
use Rattle.fmt.specs.Writing.{writable, format_bytes}
use Rattle.bext.specs.Records.{bext_in}
use Rattle.chna.specs.Records.{chna_in, pads_zeroed}
use Rattle.file_parts.specs.Parts.{chunk_with, chunk_bytes, optional, own_field, opening_bytes}

-- ---- the file

-- "then fmt, bext, chna, data"; "the file writer zeroes it too", the pad of chna's entries
unfoldable pub body_bytes : Form → Format → List ℕ → List ℕ → List ℕ → List ℕ
body_bytes form f b c a =
    chunk_bytes FMT (format_bytes f)
    ++ (optional BEXT b ++ (optional CHNA (pads_zeroed c) ++ chunk_with DATA (own_field form (length a)) a))

-- "True form size S must make 8 + S equal L": past byte 8 the opening has WAVE, a header and the least of ds64
unfoldable pub form_size_for : Form → Format → List ℕ → List ℕ → List ℕ → ℕ
form_size_for form f b c a = 12 + LEAST + length (body_bytes form f b c a)

unfoldable pub file_bytes : Form → Format → List ℕ → List ℕ → List ℕ → List ℕ
file_bytes form f b c a =
    opening_bytes form (form_size_for form f b c a) (length a) (length a / f.block) ++ body_bytes form f b c a

-- ---- what is refused

-- 16: "bad format record, bext, chna or ragged audio"; "a 16-byte format record"; chna by "the format record's" channels
unfoldable pub input_good : Format → List ℕ → List ℕ → List ℕ → Bool
unfolding every
input_good f b c a =
    every
    (writable f
    ∷ eqb f.size 16
    ∷ (eqb (length b) 0 || is_ok (bext_in b))
    ∷ (eqb (length c) 0 || is_ok (chna_in f.channels c))
    ∷ eqb (length a % f.block) 0
    ∷ [])

-- 17: "RIFF form size, or bext in any form, above 4,294,967,294"
unfoldable pub sizes_good : Form → ℕ → ℕ → Bool
sizes_good form size bext = leb bext 4294967294 && (is_wide form || leb size 4294967294)

-- the file, or 16 or 17
unfoldable pub file_out : Form → Format → List ℕ → List ℕ → List ℕ → Answer (List ℕ)
unfolding check
file_out form f b c a =
    check (input_good f b c a) BadRecord
    (check (sizes_good form (form_size_for form f b c a) (length b)) TooLarge
    (Ok (file_bytes form f b c a)))
