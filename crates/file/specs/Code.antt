-- What only the code's contracts need.
use Rattle.std.specs.Prelude.{ℕ, ◌+◌}
use Rattle.file_parts.specs.Parts.{chunk_size, optional_size}

-- "Without bext and chna the file has 80 bytes plus audio and pad."
unfoldable pub file_size : ℕ → ℕ → ℕ → ℕ
file_size b c a = 72 + optional_size b + optional_size c + chunk_size a
