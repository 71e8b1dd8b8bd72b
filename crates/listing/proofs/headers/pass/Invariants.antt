use mathlib.Core.Path.{◌≡◌}
use Rattle.listing.specs.Code.{passed_from, Nears}
use Rattle.listing.proofs.headers.pass.Given as goal

abbrev pub invariant-loop-room : goal.invariant-loop-room
invariant-loop-room l = Nears l.file l.near l.place × (passed_from l.file l.near l.room l.place ≡ passed_from l.file l.near l.rooms l.from)

abbrev pub decreases-loop-room : goal.decreases-loop-room
decreases-loop-room l = l.room
