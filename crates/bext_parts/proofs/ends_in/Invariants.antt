-- The flag says whether the run ends within the bytes passed.
use mathlib.Core.Path.{◌≡◌}
use lib.Dec.{ltb}
use Rattle.bext_parts.specs.Code.{run}
use Rattle.bext_parts.proofs.ends_in.Given as goal

abbrev pub invariant-loop-byte : goal.invariant-loop-byte
invariant-loop-byte l = l.met ≡ ltb (run l.zeros l.s) l.byte-index
