-- `wave::rows::finish` meets its contract: in each arm the step is known, so what it leaves of the walk is one row or none.
use mathlib.Core.Path.{sym, ap, ◌∙◌}
use mathlib.Core.List.{[], ◌∷◌}
use Rattle.chunk.specs.declared.Entry.{Entry}
use Rattle.chunk.specs.Refusals.{Verdict}
use Rattle.chunk.specs.Walks.{Walked}
use Rattle.chunk.specs.declared.Step.{Step}
use Rattle.chunk.specs.Code.{walk_after, full}
use Rattle.wave.proofs.Stored.{finish-row, finish-none}
use Rattle.wave.proofs.rows.finish.Goals.{in-Chunk, in-Last, in-Cut}
use Rattle.wave.proofs.rows.finish.Goals as goal

pub returns : goal.returns
unfolding full walk_after
returns c =
    finish-row c.args.found _ _ _ _ _
    (elim c.match-found.branch [
      | in-Chunk w ↦ ap after w.in-Chunk.is ∙ sym (ap one w.end-is)
      | in-Last w ↦ ap after w.in-Last.is ∙ sym (ap one w.end-is)
      | in-Cut w ↦ ap after w.in-Cut.is ∙ sym (ap one w.end-is)
    ])
    c.put_row.ensures
  where
    after : Step → Walked
    after x = walk_after x full

    one : Entry × Verdict → Walked
    one x = record { rows = x.0 ∷ []; end = x.1 }

pub returns-in-Stop : goal.returns-in-Stop
unfolding full walk_after
returns-in-Stop c =
    finish-none c.args.found _ _ _ (ap (λ (x : Step). walk_after x full) c.in-Stop.is)
