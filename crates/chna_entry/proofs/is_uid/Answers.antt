-- `chna_entry::is_uid` meets its contract: each test asks its part of the pattern.
use Rattle.std.proofs.Common.{arith}
use Rattle.le.specs.Choice.{pick}
use Rattle.chna_entry.specs.Ids.{codes}
use Rattle.chna_entry.proofs.Patterns.{uid-tests}
use Rattle.chna_entry.proofs.is_uid.Goals as goal

pub returns-then-starts_with : goal.returns-then-starts_with
unfolding codes pick
returns-then-starts_with c = grind (arith, uid-tests c.args.e.now (omega arith))

pub returns-else-starts_with : goal.returns-else-starts_with
unfolding codes pick
returns-else-starts_with c = grind (arith, uid-tests c.args.e.now (omega arith))
