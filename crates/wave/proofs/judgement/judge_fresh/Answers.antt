-- `wave::judgement::judge_fresh` meets its contract: a fresh listing is judged as the scan judges the file.
use Rattle.std.proofs.Common.{rules, ◌≡◌, Ok, Err}
use mathlib.Core.Path.{sym, ap, ◌∙◌}
use Rattle.wave.proofs.Surveys.{fresh-bad, fresh-good}
use Rattle.wave.proofs.judgement.judge_fresh.Goals as goal

pub returns-in_err-format : goal.returns-in_err-format
returns-in_err-format c =
    let h : c.from_residual.result ≡ Err c.in_err-format.field-0.0 = search rules in
    h ∙ sym (fresh-bad _ _ c.requires _ (sym c.in_err-format.ensures))

pub returns : goal.returns
returns c = ap Ok c.of.ensures ∙ sym (fresh-good _ _ c.requires _ (sym c.in_ok-format.ensures))
