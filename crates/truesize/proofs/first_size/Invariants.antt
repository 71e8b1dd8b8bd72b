use Rattle.truesize.specs.Code.{NoneBelow}
use Rattle.truesize.proofs.first_size.Given as goal

abbrev pub invariant-loop-i : goal.invariant-loop-i
invariant-loop-i l = NoneBelow l.file l.name l.i
