-- The blocks passed are all of the run.
use Prim.Native.Nat.{◌≤◌, ◌*◌}
use Rattle.bext_parts.specs.Code.{run}
use Rattle.bext_parts.proofs.past.Given as goal

abbrev pub invariant-loop-i : goal.invariant-loop-i
invariant-loop-i g l = g.row.N * l.i ≤ run l.zeros l.s
