-- `chna::write` meets its contract: each exit is one outcome of the definition, and the last lays the counts and the
-- entries behind them, whose pads are then zeroed.
use mathlib.Core.Path.{sym, ap, ◌∙◌}
use mathlib.Core.List.{◌++◌}
use native.Mathlib.Omega.{arith}
use Rattle.le.specs.Number.{Bytes, bytes, stored}
use Rattle.chunk.proofs.Outputs.{refuses, lacks-room, writes}
use Rattle.chna.proofs.Pads.{laid-zeroed}
use Rattle.chna.proofs.Payloads.{counts-stored, four_bytes}
use Rattle.chna.proofs.Written.{ragged, unwritable, writable, written-length}
use Rattle.chna.proofs.write.Goals as goal
use Rattle.chna.proofs.write.Goals.{then-entries-ne0-via-then-entries-ne0, then-entries-ne0-via-else-entries-ne0+then-not-whole_good}

pub returns-then-entries-ne0 : goal.returns-then-entries-ne0
returns-then-entries-ne0 c =
    refuses _ _ _
    (elim c.then-entries-ne0.branch [
      | then-entries-ne0-via-then-entries-ne0 w ↦ ragged _ _ _ _ w.if-entries-ne0.true
      | then-entries-ne0-via-else-entries-ne0+then-not-whole_good w ↦
          unwritable _ _ _ _ w.if-entries-ne0.false (sym w.whole_good.ensures ∙ w.if-not-whole_good.true)
    ])

pub returns-then-out-size : goal.returns-then-out-size
unfolding Bytes
returns-then-out-size c =
    let a = c.args in
    lacks-room _ _ _
    (writable a.channels a.tracks a.uids a.entries.now (λ i. omega (arith, c.type_inv.entries i)) c.if-entries-ne0.false
    (sym c.whole_good.ensures ∙ c.if-not-whole_good.false))
    (omega (arith, written-length a.tracks a.uids a.entries.now))

pub returns : goal.returns
unfolding Bytes
returns c =
    let a = c.args in
    writes _ _ _
    (writable a.channels a.tracks a.uids a.entries.now (λ i. omega (arith, c.type_inv.entries i)) c.if-entries-ne0.false
    (sym c.whole_good.ensures ∙ c.if-not-whole_good.false))
    _ _ (sym (written-length a.tracks a.uids a.entries.now)) (omega arith)
    (laid-zeroed (bytes 2 a.tracks ++ bytes 2 a.uids) a.entries.now a.out.now c.store-2.new.s _ (four_bytes a.tracks a.uids)
    (c.store-2.ensures ∙ ap (stored 2 2 a.uids) c.store.ensures ∙ counts-stored a.tracks a.uids a.out.now (omega arith))
    c.copy_from_slice.ensures.after
    _ c.zero_pads.ensures)
