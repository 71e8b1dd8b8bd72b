-- `symphedra::symphedra_scan` meets its contract: the number of the scan's verdict.
use Rattle.symphedra.proofs.Answered.{done-number}
use Rattle.symphedra.proofs.symphedra_scan.Goals as goal

pub returns : goal.returns
returns c =
    done-number _ _ _ _ _ _ c.scan_into.ensures c.number.ensures
