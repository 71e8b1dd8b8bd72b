-- What the walk from the start tallies is what the walk from here adds to the tally so far; fewer headers may come each time.
use Rattle.chunk.specs.Code.{header_of}
use Rattle.listing.proofs.Passing.{Going}
use Rattle.listing.proofs.headers.walk.Given as goal

abbrev pub invariant-loop-ahead : goal.invariant-loop-ahead
invariant-loop-ahead l = Going l.start.head l.file l.near (header_of l.start.place l.file) l.start.place l.start.room l.ahead.place l.ahead.room l.tally

abbrev pub decreases-loop-ahead : goal.decreases-loop-ahead
decreases-loop-ahead l = l.ahead.room
