-- `wave::rows::Listed::fill` meets its contract: the rows, and then their number.
use mathlib.Core.Path.{◌∙◌}
use Rattle.wave.proofs.Stored.{filled-table}
use Rattle.wave.proofs.rows.Listed.fill.Goals.{then-is_wide, else-is_wide}
use Rattle.wave.proofs.rows.Listed.fill.Goals as goal

pub returns : goal.returns
returns c =
    filled-table _ _ _ _ _ c.args.self.now.ended c.requires
    (elim c.if-is_wide.branch [ then-is_wide w ↦ w.words-is ∙ w.put_rows.ensures | else-is_wide w ↦ w.words-is ∙ w.put_rows-else-is_wide.ensures ])
