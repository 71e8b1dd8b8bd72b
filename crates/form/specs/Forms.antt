-- Document 01, "Shape of a file": the form, its ds64, and checks 1 to 5.
use Rattle.std.specs.Prelude.{ℕ, ◌+◌, ◌*◌, ◌%◌, Bool, true, false, not, ◌||◌, List, [], ◌∷◌, length, eqb, leb}
use Rattle.le.specs.Number.{number}
use Rattle.le.specs.Choice.{pick, every}
use Rattle.chunk.specs.declared.Refusal.TheVariants.{TooShort, NotWave, Unfinished, BadDs64, BadFormSize}
use Rattle.chunk.specs.Refusals.{Answer, Err, Ok, check, and_then}
use Rattle.chunk.specs.Names.{RIFF, RF64, BW64, WAVE, DS64}
use Rattle.chunk.specs.Fields.{ONES}
use Rattle.form.specs.declared.Form.{Form}
use Rattle.form.specs.declared.Form.TheVariants.{Riff, Rf64, Bw64}
use Rattle.form.specs.declared.Ds64.{Ds64}
use Rattle.form.specs.declared.Head.{Head}

-- the 4-byte name of each form
unfoldable pub name_of : Form → ℕ
name_of Riff = RIFF
name_of Rf64 = RF64
name_of Bw64 = BW64

-- the 64-bit forms
unfoldable pub is_wide : Form → Bool
is_wide Riff = false
is_wide Rf64 = true
is_wide Bw64 = true

-- "Bytes 0 to 3 name the form", or 2
unfoldable pub form_of : ℕ → Answer Form
unfolding pick
form_of name =
    pick (eqb name RIFF) (Ok Riff)
    (pick (eqb name RF64) (Ok Rf64)
    (pick (eqb name BW64) (Ok Bw64)
    (Err NotWave)))

-- The limits of ds64: the most entries ("count is at most 16"), the least payload and an entry ("at least 28 + 12 x count
-- bytes"). Ds64::LIMIT, Ds64::LEAST and Ds64::ENTRY of the code; the reserve of a RIFF file is as large as the least.
abbrev pub ENTRIES : ℕ
ENTRIES = 16

abbrev pub LEAST : ℕ
LEAST = 28

abbrev pub ENTRY : ℕ
ENTRY = 12

-- ds64's rules, of the first header's name and size and of the entry count, in a file of len bytes: "must have ds64 as
-- first chunk, at byte 12", "Its own size field is never all ones", "The payload is at least 28 + 12 x count bytes; count
-- is at most 16", "payload and pad end by L"
unfoldable pub ds64_good : (len name size count : ℕ) → Bool
unfolding every
ds64_good len name size count =
    every
    (eqb name DS64
    ∷ not (eqb size ONES)
    ∷ leb (LEAST + ENTRY * count) size
    ∷ leb count ENTRIES
    ∷ leb (20 + size + size % 2) len
    ∷ [])

-- "Its payload: form size (64 bits), data size (64 bits), a third 64-bit number, the entry count (32 bits)"
unfoldable pub ds64_at : List ℕ → Ds64
ds64_at s = record { form_size = number 8 20 s; data_size = number 8 28 s; third = number 8 36 s; count = number 4 44 s }

unfoldable pub no_ds64 : Ds64
no_ds64 = record { form_size = 0; data_size = 0; third = 0; count = 0 }

-- check 4 of the first chunk: the head of a 64-bit form
unfoldable pub wide_as : Form → List ℕ → Answer Head
unfolding check
wide_as f s =
    check (ds64_good (length s) (number 4 12 s) (number 4 16 s) (number 4 44 s)) BadDs64
    (Ok (record { form = f; ds64 = ds64_at s }))

-- check 3 for RIFF, "an all-ones form field"; check 4 for the others
unfoldable pub head_as : Form → List ℕ → Answer Head
unfolding check
head_as Riff s = check (not (eqb (number 4 4 s) ONES)) Unfinished (Ok (record { form = Riff; ds64 = no_ds64 }))
head_as Rf64 s = wide_as Rf64 s
head_as Bw64 s = wide_as Bw64 s

-- "A size field that is not all ones is the true size. In the 64-bit forms an all-ones form field means the ds64 form size"
unfoldable pub form_size : Head → ℕ → ℕ
unfolding pick
form_size h own = pick (eqb own ONES) h.ds64.form_size own

-- "True form size S must make 8 + S equal L, with S at least 4"
unfoldable pub whole_form : ℕ → ℕ → Bool
unfolding every
whole_form len size = every (eqb (8 + size) len ∷ leb 4 size ∷ [])

-- check 5
unfoldable pub whole_as : Head → List ℕ → Answer Head
unfolding check
whole_as h s = check (whole_form (length s) (form_size h (number 4 4 s))) BadFormSize (Ok h)

-- checks 1 to 5 of the scan
unfoldable pub head_of : List ℕ → Answer Head
unfolding check and_then
head_of s =
    check (leb 12 (length s)) TooShort
    (and_then (form_of (number 4 0 s)) λ form.
    check (eqb (number 4 8 s) WAVE) NotWave
    (and_then (head_as form s) λ h.
    whole_as h s))

-- checks 1, 2 and 5 of the 32-bit walk, which "ignores the form's name and ds64. It ends at L if the form field is all
-- ones; otherwise 8 + field must equal L, with field at least 4"
unfoldable pub open_for32 : List ℕ → Answer ℕ
unfolding check
open_for32 s =
    check (leb 12 (length s)) TooShort
    (check (eqb (number 4 8 s) WAVE) NotWave
    (check (eqb (number 4 4 s) ONES || whole_form (length s) (number 4 4 s)) BadFormSize
    (Ok 12)))
