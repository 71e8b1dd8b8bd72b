-- `chna_entry::no_pack` meets its contract: eleven zeros are three numbers that are 0.
use Rattle.std.proofs.Common.{arith}
use Rattle.le.specs.Choice.{pick}
use Rattle.le.proofs.Laws.{number-one}
use Rattle.chna_entry.proofs.Patterns.{nopack-tests}
use Rattle.chna_entry.proofs.no_pack.Goals as goal

pub returns-then-read-eq0-2 : goal.returns-then-read-eq0-2
unfolding pick
returns-then-read-eq0-2 c = grind (arith, nopack-tests c.args.e.now (omega arith), number-one 38 c.args.e.now (omega arith))

pub returns-else-read-eq0-2 : goal.returns-else-read-eq0-2
unfolding pick
returns-else-read-eq0-2 c = grind (arith, nopack-tests c.args.e.now (omega arith), number-one 38 c.args.e.now (omega arith))
