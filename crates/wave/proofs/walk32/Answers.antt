-- `wave::walk32` meets its contract: the walk into the words of the table of no chunks.
use Rattle.std.proofs.Common.{rules}
use Rattle.wave.specs.Scans.{walk32}
use Rattle.wave.specs.Words.{walk_table}
use Rattle.wave.proofs.Ends.{done-value}
use Rattle.wave.proofs.walk32.Goals as goal

pub returns : goal.returns
unfolding walk_table
returns c = done-value ((walk32 c.args.file.now).end) ((walk32 c.args.file.now).rows) _ (search rules)
