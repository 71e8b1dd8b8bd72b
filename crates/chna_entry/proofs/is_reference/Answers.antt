-- `chna_entry::is_reference` meets its contract: what both forms ask, and then what each asks.
use Rattle.std.proofs.Common.{arith}
use Rattle.le.specs.Choice.{pick}
use Rattle.chna_entry.specs.Ids.{codes}
use Rattle.chna_entry.proofs.Patterns.{track-tests, channel-tests}
use Rattle.chna_entry.proofs.is_reference.Goals as goal

pub returns-then-hex-2 : goal.returns-then-hex-2
unfolding codes pick
returns-then-hex-2 c = grind (arith, track-tests c.args.e.now (omega arith), channel-tests c.args.e.now (omega arith))

pub returns-then-starts_with-2 : goal.returns-then-starts_with-2
unfolding codes pick
returns-then-starts_with-2 c = grind (arith, track-tests c.args.e.now (omega arith), channel-tests c.args.e.now (omega arith))

pub returns-else-starts_with-2 : goal.returns-else-starts_with-2
unfolding codes pick
returns-else-starts_with-2 c = grind (arith, track-tests c.args.e.now (omega arith), channel-tests c.args.e.now (omega arith))

pub returns-else-hex : goal.returns-else-hex
unfolding codes pick
returns-else-hex c = grind (arith, track-tests c.args.e.now (omega arith), channel-tests c.args.e.now (omega arith))
