-- What is known of the entries from the last one looked at on.
use Rattle.chna.proofs.Counts.{Counted}
use Rattle.chna.proofs.whole_good.Given as goal

abbrev pub invariant-loop-i : goal.invariant-loop-i
invariant-loop-i l = Counted l.channels l.entries l.i l.marks l.different l.used
