-- Document 01's "Whole file, two channels, 16 bits, 48,000, one frame": what it is written of.
use Rattle.std.specs.Prelude.{ℕ, List, [], ◌∷◌}
use Rattle.fmt.specs.declared.Format.{Format}

unfoldable pub stereo : Format
stereo = record { size = 16; tag = 1; channels = 2; rate = 48000; byterate = 192000; block = 4; bits = 16; valid = 0; mask = 0 }

unfoldable pub frame : List ℕ
frame = 0x01 ∷ 0x00 ∷ 0xFF ∷ 0xFF ∷ []
