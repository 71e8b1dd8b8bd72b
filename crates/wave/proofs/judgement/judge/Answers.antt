-- `wave::judgement::judge` meets its contract: the fmt reader and the block pick the case.
use Rattle.std.proofs.Common.{rules, ◌≡◌, Err}
use mathlib.Core.Path.{sym, ◌∙◌}
use native.Mathlib.Omega.{arith}
use Rattle.fmt.proofs.Laws.{block-least}
use Rattle.wave.proofs.Judgements.{fmt-fits, fmt-part, judge-fmt, judge-ragged, judge-good}
use Rattle.wave.proofs.judgement.judge.Goals as goal

pub overflow_add-end : goal.overflow_add-end
overflow_add-end c = omega (arith, fmt-fits _ _ c.requires)

pub slice_bounds-read-end : goal.slice_bounds-read-end
slice_bounds-read-end c = fmt-fits _ _ c.requires

pub nonzero_rem-listed : goal.nonzero_rem-listed
nonzero_rem-listed c = block-least _ _ (sym c.in_ok-format.ensures)

pub returns-in_err-format : goal.returns-in_err-format
returns-in_err-format c =
    let h : c.from_residual.result ≡ Err c.in_err-format.field-0.0 = search rules in
    h ∙ sym (judge-fmt _ _ _ (sym (fmt-part _ _ _) ∙ sym c.in_err-format.ensures))

pub returns-then-listed-format-ne0 : goal.returns-then-listed-format-ne0
returns-then-listed-format-ne0 c =
    sym (judge-ragged _ _ _ (sym (fmt-part _ _ _) ∙ sym c.in_ok-format.ensures) c.if-listed-format-ne0.true)

pub returns : goal.returns
returns c =
    sym (judge-good _ _ _ (sym (fmt-part _ _ _) ∙ sym c.in_ok-format.ensures) c.if-listed-format-ne0.false)
