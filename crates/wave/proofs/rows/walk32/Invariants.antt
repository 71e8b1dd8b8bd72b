use Rattle.wave.proofs.Stored.{Storing}
use Rattle.wave.proofs.rows.walk32.Given as goal

abbrev pub invariant-loop-used : goal.invariant-loop-used
invariant-loop-used l = Storing l.file l.initial.words l.words l.place l.used
