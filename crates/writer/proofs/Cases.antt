-- Document 01's whole file, of 84 bytes, is what is written of its format and its one frame. By computing.
-- Assumes nothing.
use mathlib.Core.Path.{◌≡◌, refl}
use mathlib.Core.List.{[]}
use Rattle.le.specs.Choice.{pick, every}
use Rattle.le.specs.Number.{bytes}
use Rattle.chunk.specs.Refusals.{Ok, check}
use Rattle.form.specs.declared.Form.TheVariants.{Riff}
use Rattle.form.specs.Forms.{name_of, is_wide}
use Rattle.fmt.specs.Formats.{size_good, bits_good, samples_good, valid_good, record_good}
use Rattle.fmt.specs.Writing.{extra_bytes, head_bytes, format_bytes, fields_fit, writable}
use Rattle.chna.specs.Records.{pads_at, pads_off, pads_zeroed}
use Rattle.upgrade.specs.Cases.{file}
use Rattle.file_parts.specs.Parts.{pad_of, chunk_with, chunk_bytes, optional, first_chunk, own_field, opening_bytes}
use Rattle.file.specs.Files.{body_bytes, form_size_for, file_bytes, input_good, sizes_good, file_out}
use Rattle.writer.specs.Cases.{stereo, frame}

pub whole-file : file_out Riff stereo [] [] frame ≡ Ok file
unfolding pick every bytes check name_of is_wide size_good bits_good samples_good valid_good record_good extra_bytes head_bytes format_bytes fields_fit writable pads_at pads_off pads_zeroed file pad_of chunk_with chunk_bytes optional first_chunk own_field opening_bytes body_bytes form_size_for file_bytes input_good sizes_good file_out stereo frame
whole-file = refl
