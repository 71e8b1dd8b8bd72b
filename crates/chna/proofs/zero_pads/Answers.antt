-- `chna::zero_pads` meets its contract. The loop's invariant: the pads up to the next one are zeroed, and the rest is as it was.
use native.Mathlib.Omega.{arith}
use Rattle.chna.proofs.Pads.{none-zeroed, one-zeroed, all-zeroed}
use Rattle.chna.proofs.zero_pads.Goals as goal

pub loop-at-init : goal.loop-at-init
loop-at-init c =
    none-zeroed _

pub loop-at-preserved : goal.loop-at-preserved
loop-at-preserved c =
    one-zeroed _ _ _ c.loop-at.invariant (omega arith)

pub returns : goal.returns
returns c =
    all-zeroed _ _ _ c.loop-at.invariant (omega arith)

pub returns-2 : goal.returns-2
returns-2 c =
    let a = c.args.payload.now in
    all-zeroed a _ _ (one-zeroed _ _ _ c.loop-at.invariant (omega arith)) (omega arith)
