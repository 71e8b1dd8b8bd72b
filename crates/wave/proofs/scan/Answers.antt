-- `wave::scan` meets its contract: the scan into the words of the table of no chunks.
use Rattle.std.proofs.Common.{rules}
use Rattle.chunk.specs.Refusals.{verdict_of}
use Rattle.wave.specs.Scans.{scan, rows_of}
use Rattle.wave.specs.Words.{scan_table}
use Rattle.wave.proofs.Ends.{done-value}
use Rattle.wave.proofs.scan.Goals as goal

pub returns : goal.returns
unfolding scan_table
returns c = done-value (verdict_of (scan c.args.file.now)) (rows_of (scan c.args.file.now)) _ (search rules)
