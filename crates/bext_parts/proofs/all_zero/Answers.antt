-- `bext_parts::all_zero` meets its contract: the run of zeros ends where the bytes do, or before.
use mathlib.Core.Path.{sym, ap, ◌∙◌}
use mathlib.Core.Bool.{true, not}
use Prim.Native.Nat.{◌-◌}
use native.Mathlib.Omega.{arith}
use lib.ListN.{length}
use Rattle.std.proofs.lemmas.Bool.Decides.{nat_tests}
use Rattle.bext_parts.proofs.Runs.{run_short, run-drop, zeros-run}
use Rattle.bext_parts.proofs.all_zero.Goals as goal

pub returns-in_default : goal.returns-in_default
returns-in_default c = rw (zeros-run c.args.s.now, c.is_empty.ensures) (grind (arith, nat_tests, run_short))

pub returns-then-rest-lt8 : goal.returns-then-rest-lt8
returns-then-rest-lt8 c =
    let s = c.args.s.now in
    let last = rw c.in-Some.ensures.cases.1.same at c.ends_in.ensures in
    ap not (last ∙ run-drop true s (length s - 8) (omega arith)) ∙ sym (zeros-run s)

pub returns-else-rest-lt8 : goal.returns-else-rest-lt8
returns-else-rest-lt8 c = rw (zeros-run c.args.s.now) (grind (arith, nat_tests))
