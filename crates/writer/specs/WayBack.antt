-- The way back: what the scan, the walk, the readers and the upgrade say of a file that was written. The words of the
-- statements, which proofs/WayBack.antt proves of every input that isn't refused.
use Rattle.std.specs.Prelude.{ℕ, ◌+◌, ◌/◌, ◌%◌, ◌≡◌, List, [], ◌∷◌, ◌++◌, None, length, eqb}
use Rattle.le.specs.Number.{number}
use Rattle.le.specs.Choice.{pick}
use Rattle.chunk.specs.declared.Entry.{Entry}
use Rattle.chunk.specs.declared.Source.{Source}
use Rattle.chunk.specs.declared.Source.TheVariants.{Own, DataSize}
use Rattle.chunk.specs.Refusals.{Ok}
use Rattle.chunk.specs.Names.{DS64, JUNK, FMT, DATA, BEXT, CHNA}
use Rattle.chunk.specs.Tables.{count, find}
use Rattle.form.specs.declared.Form.{Form}
use Rattle.form.specs.declared.Form.TheVariants.{Riff, Rf64, Bw64}
use Rattle.form.specs.Forms.{LEAST}
use Rattle.fmt.specs.declared.Format.{Format}
use Rattle.fmt.specs.Formats.{format_in}
use Rattle.bext.specs.Records.{bext_in}
use Rattle.chna.specs.Records.{chna_in, pads_zeroed}
use Rattle.wave.specs.Scans.{Scan, scan, payload, walk32}
use Rattle.samples.specs.Counts.{samples_of}
use Rattle.upgrade.specs.declared.Target.{Target}
use Rattle.upgrade.specs.Upgrades.{upgraded}
use Rattle.upgrade.specs.Demand3.{target_form}
use Rattle.file_parts.specs.Parts.{optional_size}
use Rattle.file.specs.Files.{file_out}

-- ---- the table of a written file

unfoldable pub entry : Source → ℕ → ℕ → ℕ → Entry
entry source name place size = record { name = name; place = place; size = size; source = source }

-- where data's size comes from: its field is all ones in the 64-bit forms
unfoldable pub data_source : Form → Source
data_source Riff = Own
data_source Rf64 = DataSize
data_source Bw64 = DataSize

unfoldable pub first_name : Form → ℕ
first_name Riff = JUNK
first_name Rf64 = DS64
first_name Bw64 = DS64

-- the row of a payload, "empty means absent"
unfoldable pub row_for : ℕ → ℕ → ℕ → List Entry
unfolding pick
row_for name place size = pick (eqb size 0) [] (entry Own name place size ∷ [])

-- "JUNK .. or ds64 .., then fmt, bext, chna, data", of the sizes of bext, chna and the audio
unfoldable pub table_for : Form → ℕ → ℕ → ℕ → List Entry
table_for form b c a =
    entry Own (first_name form) 20 LEAST
    ∷ (entry Own FMT 56 16
    ∷ (row_for BEXT 80 b
    ++ (row_for CHNA (80 + optional_size b) c ++ (entry (data_source form) DATA (80 + optional_size b + optional_size c) a ∷ []))))

-- ---- the statements

-- Of the bytes bs that are written of a form, a format record f, the payloads b and c of bext and chna, and audio a:
pub record WayBack (form : Form) (f : Format) (b c a bs : List ℕ) : Type 0 where
  -- the scan accepts exactly the written part, with the table JUNK or ds64, fmt, bext, chna, data at their places
  pub scanned : Scan
  pub accepted : scan bs ≡ Ok scanned
  pub form_is : scanned.head.form ≡ form
  pub rows : scanned.rows ≡ table_for form (length b) (length c) (length a)
  -- "Without bext and chna the file has 80 bytes plus audio and pad."
  pub long : length bs ≡ 80 + optional_size (length b) + optional_size (length c) + length a + length a % 2
  -- the fmt reader gives the record that was given
  pub format : scanned.format ≡ f
  pub fmt : format_in (payload (find FMT scanned.rows) bs) ≡ Ok f
  -- the bext payload is the given one, and its reader gives the same record
  pub bext : (length b ≡ 0 → ⊥) → payload (find BEXT scanned.rows) bs ≡ b
  pub bext_record : (length b ≡ 0 → ⊥) → bext_in (payload (find BEXT scanned.rows) bs) ≡ bext_in b
  pub no_bext : length b ≡ 0 → count BEXT scanned.rows ≡ 0
  -- the chna payload is the given one but for the pads, and its reader gives the same record
  pub chna : (length c ≡ 0 → ⊥) → payload (find CHNA scanned.rows) bs ≡ pads_zeroed c
  pub chna_record : (length c ≡ 0 → ⊥) → chna_in f.channels (payload (find CHNA scanned.rows) bs) ≡ chna_in f.channels c
  pub no_chna : length c ≡ 0 → count CHNA scanned.rows ≡ 0
  -- the audio is the same bytes
  pub audio : payload (find DATA scanned.rows) bs ≡ a
  -- the sample count is none
  pub samples : samples_of bs ≡ Ok None
  -- "RF64's third number is the frame count"; BW64's is "zero when written"
  pub third : form ≡ Rf64 → number 8 36 bs ≡ length a / f.block
  pub third_zero : form ≡ Bw64 → number 8 36 bs ≡ 0
  -- the 32-bit walk shows a RIFF file whole, and ends with no refusal
  pub walk : form ≡ Riff → walk32 bs ≡ record { rows = table_for form (length b) (length c) (length a); end = Ok tt }
  -- a RIFF file can be upgraded, and then is, byte for byte, what is written for that form from the same input
  pub upgrades : form ≡ Riff → (t : Target) → upgraded t bs ≡ file_out (target_form t) f b c a
