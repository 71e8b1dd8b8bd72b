-- `bext_parts::ends_in` meets its contract: the flag says whether the run ends within the bytes passed.
use mathlib.Core.Path.{sym}
use native.Mathlib.Omega.{arith}
use borrow.Author.Tests.{le-ltb}
use Rattle.bext_parts.specs.Code.{run}
use Rattle.bext_parts.proofs.Runs.{run_ends}
use Rattle.bext_parts.proofs.ends_in.Goals as goal

pub loop-byte-init : goal.loop-byte-init
loop-byte-init c = sym (le-ltb (run c.args.zeros c.args.s.now) 0 (omega arith))

pub loop-byte-preserved : goal.loop-byte-preserved
loop-byte-preserved c =
    rw c.loop-byte.invariant (run_ends c.args.zeros c.args.s.now c.loop-byte.byte-index c.loop-byte-test.true)
