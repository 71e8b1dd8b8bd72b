-- The pads up to the next one are zeroed, and the rest is as it was.
use Rattle.chna.proofs.Pads.{Zeroed}
use Rattle.chna.proofs.zero_pads.Given as goal

abbrev pub invariant-loop-at : goal.invariant-loop-at
invariant-loop-at l = Zeroed l.initial.payload l.payload l.at
