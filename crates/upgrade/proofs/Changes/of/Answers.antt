-- `upgrade::Changes::of` meets its contract.
use Rattle.std.proofs.Common.{arith}
use Rattle.upgrade.proofs.Makes.{known-long, data-within}
use Rattle.upgrade.proofs.Changes.of.Goals as goal

pub overflow_sub-result : goal.overflow_sub-result
overflow_sub-result c = let k = known-long _ _ c.requires in omega (arith, k)

pub overflow_sub-result-2 : goal.overflow_sub-result-2
overflow_sub-result-2 c = let k = data-within _ _ c.requires in omega (arith, k.0)
