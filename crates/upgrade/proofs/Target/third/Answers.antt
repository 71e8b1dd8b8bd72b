-- `upgrade::Target::third` meets its contract: in each arm the target and fact are known.
use Rattle.std.proofs.Common.{arith}
use Rattle.upgrade.proofs.Makes.{fact-within, known-block}
use Rattle.upgrade.proofs.Target.third.Goals as goal

pub read-requires : goal.read-requires
read-requires c =
    let k = fact-within _ _ c.requires _ c.in-Rf64-Some.is-1 in
    record { narrow = omega arith; inside = omega (arith, k) }

pub nonzero_div-result : goal.nonzero_div-result
nonzero_div-result c = let k = known-block _ _ c.requires in omega (arith, k)
