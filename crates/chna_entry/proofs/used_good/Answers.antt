-- `chna_entry::used_good` meets its contract: the tests are the rules, in their order.
use Rattle.std.proofs.Common.{arith, sym}
use Rattle.std.proofs.lemmas.Bool.Decides.{nat_tests}
use Rattle.le.specs.Choice.{pick}
use Rattle.chna_entry.proofs.Entries.{used-tests, short-entry}
use Rattle.chna_entry.proofs.used_good.Goals as goal

pub returns-in_default : goal.returns-in_default
returns-in_default c = sym (short-entry _ _ c.in_default.ensures.cases)

pub returns-then-is_pack : goal.returns-then-is_pack
unfolding pick
returns-then-is_pack c =
    grind (arith, nat_tests, used-tests c.args.channels c.args.e.now c.in-Some.e.now c.in-Some.ensures.cases.same (omega arith))

pub returns-else-is_pack : goal.returns-else-is_pack
unfolding pick
returns-else-is_pack c =
    grind (arith, nat_tests, used-tests c.args.channels c.args.e.now c.in-Some.e.now c.in-Some.ensures.cases.same (omega arith))

pub returns-else-is_reference : goal.returns-else-is_reference
unfolding pick
returns-else-is_reference c =
    grind (arith, nat_tests, used-tests c.args.channels c.args.e.now c.in-Some.e.now c.in-Some.ensures.cases.same (omega arith))
