-- Stores.
use native.Mathlib.Omega.{arith}
use Rattle.wave.proofs.Again.{same-entry, turn-ends}
use Rattle.wave.proofs.Stored.{filling-start, filling-next, filling-end}
use Rattle.wave.proofs.rows.Listed.put_rows.Goals as goal

pub loop-i-init : goal.loop-i-init
loop-i-init g c = filling-start _ _ _ _ c.args.self.now.ended c.requires.room

pub entry-entry-requires-clause-stands : goal.entry-entry-requires-clause-stands
entry-entry-requires-clause-stands g c =
    let t = (filling-next _ _ _ _ _ _ _ _ c.loop-i.invariant c.loop-i-test.true).turn in
    (t.entry, t.at)

pub past-place-requires : goal.past-place-requires
past-place-requires g c =
    let t = (filling-next _ _ _ _ _ _ _ _ c.loop-i.invariant c.loop-i-test.true).turn in
    (c.loop-i.invariant.again.even, omega (arith, turn-ends t _ c.entry-entry.ensures))

pub loop-i-preserved : goal.loop-i-preserved
loop-i-preserved g c =
    let a = filling-next _ _ _ _ _ _ _ _ c.loop-i.invariant c.loop-i-test.true in
    a.after _ _ _ (same-entry a.turn.at c.entry-entry.ensures) c.put_row.ensures c.past-place.ensures

pub returns : goal.returns
returns g c = filling-end _ _ _ _ _ _ _ _ c.loop-i.invariant c.loop-i-test.false
