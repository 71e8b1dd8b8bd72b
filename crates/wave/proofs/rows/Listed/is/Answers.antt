-- `wave::rows::Listed::is` meets its contract: the number of words, the number of rows, and then the rows.
use mathlib.Core.Path.{refl, sym, ◌∙◌}
use native.Mathlib.Omega.{arith}
use Rattle.wave.proofs.Again.{ended-few}
use Rattle.wave.proofs.Compared.{too_few, other-count, same_count}
use Rattle.wave.proofs.rows.Listed.is.Goals as goal

pub overflow_mul-stop : goal.overflow_mul-stop
overflow_mul-stop c = omega (arith, ended-few _ _ _ c.args.self.now.ended)

pub overflow_add-stop : goal.overflow_add-stop
overflow_add-stop c = omega (arith, ended-few _ _ _ c.args.self.now.ended)

pub returns-then-table-stop : goal.returns-then-table-stop
returns-then-table-stop c =
    sym (too_few _ _ _ _ c.args.self.now.ended.count refl c.if-table-stop.true)

pub returns-then-table-self : goal.returns-then-table-self
returns-then-table-self c =
    sym (other-count _ _ _ c.args.self.now.ended.count (omega (arith, c.if-table-stop.false)) c.if-table-self.true)

pub returns-then-is_wide : goal.returns-then-is_wide
returns-then-is_wide c =
    c.are_rows.ensures
    ∙ sym (same_count _ _ _ c.args.self.now.ended.count (omega (arith, c.if-table-stop.false)) c.if-table-self.false)

pub returns-else-is_wide : goal.returns-else-is_wide
returns-else-is_wide c =
    c.are_rows-else-is_wide.ensures
    ∙ sym (same_count _ _ _ c.args.self.now.ended.count (omega (arith, c.if-table-stop.false)) c.if-table-self.false)
