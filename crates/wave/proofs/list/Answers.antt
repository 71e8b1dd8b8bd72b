-- `wave::list` meets its contract: the listing into the words of the table of no chunks.
use Rattle.std.proofs.Common.{rules}
use Rattle.chunk.specs.Refusals.{verdict_of}
use Rattle.listing.specs.Listings.{listing}
use Rattle.wave.specs.Scans.{listed_rows}
use Rattle.wave.specs.Words.{list_table}
use Rattle.wave.proofs.Ends.{done-value}
use Rattle.wave.proofs.list.Goals as goal

pub returns : goal.returns
unfolding list_table
returns c = done-value (verdict_of (listing c.args.file.now)) (listed_rows (listing c.args.file.now)) _ (search rules)
