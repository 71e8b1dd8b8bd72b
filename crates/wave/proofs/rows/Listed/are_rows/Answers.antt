-- Compares.
use mathlib.Core.Path.{sym, ◌∙◌}
use native.Mathlib.Omega.{arith}
use Rattle.wave.proofs.Again.{turn-ends}
use Rattle.wave.proofs.Compared.{comparing-start, comparing-turn, comparing-other, comparing-next, comparing-end}
use Rattle.wave.proofs.rows.Listed.are_rows.Goals as goal

pub loop-i-init : goal.loop-i-init
loop-i-init g c = comparing-start _ _ _ _ c.args.self.now.ended

pub entry-entry-requires-clause-stands : goal.entry-entry-requires-clause-stands
entry-entry-requires-clause-stands g c =
    let t = comparing-turn _ _ _ _ _ _ c.loop-i.invariant c.loop-i-test.true in
    (t.entry, t.at)

pub returns-then-not-is_row : goal.returns-then-not-is_row
returns-then-not-is_row g c =
    sym (comparing-other _ _ _ _ _ _ c.loop-i.invariant c.loop-i-test.true _ c.entry-entry.ensures (sym c.is_row.ensures ∙ c.if-not-is_row.true))

pub past-place-requires : goal.past-place-requires
past-place-requires g c =
    let t = comparing-turn _ _ _ _ _ _ c.loop-i.invariant c.loop-i-test.true in
    (c.loop-i.invariant.again.even, omega (arith, turn-ends t _ c.entry-entry.ensures))

pub loop-i-preserved : goal.loop-i-preserved
loop-i-preserved g c =
    comparing-next _ _ _ _ _ _ c.loop-i.invariant c.loop-i-test.true _ c.entry-entry.ensures _
    (sym c.is_row.ensures ∙ c.if-not-is_row.false) c.past-place.ensures

pub returns : goal.returns
returns g c = sym (comparing-end _ _ _ _ _ _ c.loop-i.invariant c.loop-i-test.false)
