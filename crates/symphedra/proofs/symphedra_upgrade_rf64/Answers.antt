-- `symphedra::symphedra_upgrade_rf64` meets its contract: the number of the upgrade's verdict.
use Rattle.symphedra.proofs.Answered.{upgrade-number}
use Rattle.symphedra.proofs.symphedra_upgrade_rf64.Goals as goal

pub returns : goal.returns
returns c =
    upgrade-number _ _ _ _ _ c.upgrade.ensures.upgrade_done c.number.ensures
