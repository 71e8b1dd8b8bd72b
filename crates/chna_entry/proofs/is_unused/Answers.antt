-- `chna_entry::is_unused` meets its contract: 40 zeros are five numbers of 8 bytes that are 0.
use Rattle.std.proofs.Common.{arith, sym}
use Rattle.le.specs.Choice.{pick}
use Rattle.chna_entry.proofs.Patterns.{misfits, unused-tests}
use Rattle.chna_entry.proofs.is_unused.Goals as goal

pub returns-then-e-ne-SIZE : goal.returns-then-e-ne-SIZE
returns-then-e-ne-SIZE c = sym (misfits _ _ c.if-e-ne-SIZE.true)

pub returns-then-read-eq0-4 : goal.returns-then-read-eq0-4
unfolding pick
returns-then-read-eq0-4 c = grind (arith, unused-tests c.args.e.now c.if-e-ne-SIZE.false)

pub returns-else-read-eq0-4 : goal.returns-else-read-eq0-4
unfolding pick
returns-else-read-eq0-4 c = grind (arith, unused-tests c.args.e.now c.if-e-ne-SIZE.false)
