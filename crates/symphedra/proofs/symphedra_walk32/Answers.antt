-- `symphedra::symphedra_walk32` meets its contract: the number of the walk's verdict.
use Rattle.symphedra.proofs.Answered.{done-number}
use Rattle.symphedra.proofs.symphedra_walk32.Goals as goal

pub returns : goal.returns
returns c =
    done-number _ _ _ _ _ _ c.walk32_into.ensures c.number.ensures
