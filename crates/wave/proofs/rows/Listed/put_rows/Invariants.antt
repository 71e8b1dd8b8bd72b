use Rattle.listing.specs.Listings.{headers}
use Rattle.listing.specs.Code.{rule}
use Rattle.wave.proofs.Stored.{Filling}
use Rattle.wave.proofs.rows.Listed.put_rows.Given as goal

abbrev pub invariant-loop-i : goal.invariant-loop-i
invariant-loop-i g l =
    Filling (rule l.self.head l.self.file.now) (headers l.self.head l.self.file.now).rows l.self.file.now l.initial.words l.words l.i-end l.place l.i
