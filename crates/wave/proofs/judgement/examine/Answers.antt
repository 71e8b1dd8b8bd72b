-- `wave::judgement::examine` meets its contract: what the survey says of the file is what the scan does.
use Rattle.std.proofs.Common.{rules, ◌≡◌, Ok, Err}
use mathlib.Core.Path.{sym, ap, ◌∙◌}
use Rattle.wave.specs.Code.{examined_as}
use Rattle.wave.proofs.Judgements.{scan-listing}
use Rattle.wave.proofs.Surveys.{surveyed-none, surveyed-tells, fresh-bad, fresh-good}
use Rattle.wave.proofs.judgement.examine.Goals as goal

pub returns-in_err-surveyed : goal.returns-in_err-surveyed
unfolding examined_as
returns-in_err-surveyed c =
    let h : c.from_residual.result ≡ Err c.in_err-surveyed.field-0.0 = search rules in
    h ∙ sym (ap (examined_as _) (scan-listing _ _ (surveyed-none _ _ (sym c.in_err-surveyed.ensures))))

pub returns-in_err-format : goal.returns-in_err-format
returns-in_err-format c =
    let h : c.from_residual-in_err-format.result ≡ Err c.in_err-format.field-0.0 = search rules in
    let t = surveyed-tells _ _ (sym c.in_ok-surveyed.ensures) in
    h ∙ sym (fresh-bad _ _ t.fresh _ (sym t.said ∙ c.in_err-format.was))

pub returns : goal.returns
returns c =
    let t = surveyed-tells _ _ (sym c.in_ok-surveyed.ensures) in
    ap Ok c.of.ensures ∙ sym (fresh-good _ _ t.fresh _ (sym t.said ∙ c.in_ok-format.was))
