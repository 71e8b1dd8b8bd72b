-- No file that is written is empty.
-- Assumes nothing.
use mathlib.Core.List.{List}
use Prim.Native.Nat.{ℕ, ◌≤◌}
use native.Mathlib.Omega.{arith}
use lib.ListN.{length}
use Rattle.le.specs.Number.{bytes}
use Rattle.chunk.specs.declared.Refusal.TheVariants.{BadRecord, TooLarge}
use Rattle.chunk.specs.Refusals.{Ok, check}
use Rattle.fmt.specs.declared.Format.{Format}
use Rattle.form.specs.declared.Form.{Form}
use Rattle.file_parts.specs.Parts.{opening_bytes}
use Rattle.file.specs.Files.{file_bytes, form_size_for, input_good, sizes_good, file_out}
use Rattle.words.proofs.Written.{Filled}
use Rattle.records.proofs.Payloads.{whole, checked}

file-long : (form : Form) (f : Format) (b c a : List ℕ) → 1 ≤ length (file_bytes form f b c a)
unfolding file_bytes opening_bytes bytes
file-long form f b c a = omega arith

pub file-filled : (form : Form) (f : Format) (b c a : List ℕ) → Filled (file_out form f b c a)
unfolding file_out
file-filled form f b c a =
    let file = Ok (file_bytes form f b c a) in
    let sizes = sizes_good form (form_size_for form f b c a) (length b) in
    checked (input_good f b c a) BadRecord (check sizes TooLarge file)
    (checked sizes TooLarge file (whole (file_bytes form f b c a) (file-long form f b c a)))
