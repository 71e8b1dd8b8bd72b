-- `bext_parts::text_length` meets its contract: less than one byte of the run is none.
use native.Mathlib.Omega.{arith}
use Rattle.bext_parts.proofs.Runs.{run-text}
use Rattle.bext_parts.proofs.text_length.Goals as goal

pub returns : goal.returns
returns c = omega (arith, run-text c.args.s.now)
