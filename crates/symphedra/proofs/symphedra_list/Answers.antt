-- `symphedra::symphedra_list` meets its contract: the number of the listing's verdict.
use Rattle.symphedra.proofs.Answered.{done-number}
use Rattle.symphedra.proofs.symphedra_list.Goals as goal

pub returns : goal.returns
returns c =
    done-number _ _ _ _ _ _ c.list_into.ensures c.number.ensures
