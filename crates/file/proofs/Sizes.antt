-- The lengths of what is written of a fmt payload of 16 bytes: the file has the size that the code computes for it.
-- Assumes nothing.
use mathlib.Core.Path.{◌≡◌, ap, ◌∙◌}
use mathlib.Core.List.{List}
use Prim.Native.Nat.{ℕ, ◌+◌, ◌-◌, ◌/◌}
use native.Mathlib.Omega.{arith}
use lib.ListN.{length, length-append}
use Rattle.chunk.specs.Names.{FMT}
use Rattle.form.specs.declared.Form.{Form}
use Rattle.fmt.specs.declared.Format.{Format}
use Rattle.fmt.specs.Writing.{format_bytes}
use Rattle.fmt.proofs.Payloads.{long-16}
use Rattle.chna.proofs.Pads.{zeroed-length}
use Rattle.file_parts.specs.Parts.{chunk_bytes, opening_bytes, chunk_size}
use Rattle.file_parts.proofs.Lengths.{chunk-length, optional-length, opening-length}
use Rattle.file.specs.Files.{body_bytes, form_size_for, file_bytes}
use Rattle.file.specs.Code.{file_size}

module _ (f : Format) (sixteen : f.size ≡ 16) where
  pub format-length : length (format_bytes f) ≡ 16
  format-length = long-16 f (omega arith) (omega arith)

  pub fmt-length : length (chunk_bytes FMT (format_bytes f)) ≡ 24
  unfolding chunk_bytes chunk_size
  fmt-length = chunk-length FMT (length (format_bytes f)) (format_bytes f) ∙ ap chunk_size format-length

  module _ (form : Form) (b c a : List ℕ) where
    body-length : 48 + length (body_bytes form f b c a) ≡ file_size (length b) (length c) (length a)
    unfolding body_bytes file_size
    body-length = simp (length-append, fmt-length, optional-length, zeroed-length, chunk-length) (omega arith)

    pub form-size : form_size_for form f b c a ≡ file_size (length b) (length c) (length a) - 8
    unfolding form_size_for
    form-size = omega (arith, body-length)

    pub file-length : length (file_bytes form f b c a) ≡ file_size (length b) (length c) (length a)
    unfolding file_bytes
    file-length =
        omega
        (arith, length-append (opening_bytes form (form_size_for form f b c a) (length a) (length a / f.block)) (body_bytes form f b c a), opening-length form (form_size_for form f b c a) (length a) (length a / f.block), body-length)
