-- `wave::judge` meets its contract: the file is surveyed, its table compared, and then the judgement given.
use Rattle.std.proofs.Common.{rules, ◌≡◌, Err}
use mathlib.Core.Path.{sym, ◌∙◌}
use Rattle.wave.proofs.Ends.{fresh-ended}
use Rattle.wave.proofs.Freshness.{judge-none, judge-stale, judge-refused, judge-accepted}
use Rattle.wave.proofs.Surveys.{surveyed-none, surveyed-tells, fresh-bad, fresh-good}
use Rattle.wave.proofs.judge.Goals as goal

pub invariant_of-listed : goal.invariant_of-listed
invariant_of-listed c =
    record { ended = fresh-ended _ _ (surveyed-tells _ _ (sym c.in-Ok.ensures)).fresh }

pub returns-in-Err : goal.returns-in-Err
returns-in-Err c =
    judge-none _ _ _ (surveyed-none _ _ (sym c.in-Err.ensures))

pub returns-then-not-is : goal.returns-then-not-is
returns-then-not-is c =
    let t = surveyed-tells _ _ (sym c.in-Ok.ensures) in
    judge-stale _ _ _ t.fresh _ c.is.ensures c.if-not-is.true

pub returns-in_err-surveyed-in-Ok : goal.returns-in_err-surveyed-in-Ok
returns-in_err-surveyed-in-Ok c =
    let h : c.from_residual.result ≡ Err c.in_err-surveyed-in-Ok.field-0.0 = search rules in
    let t = surveyed-tells _ _ (sym c.in-Ok.ensures) in
    h ∙ judge-refused _ _ _ t.fresh _ c.is.ensures c.if-not-is.false _ (fresh-bad _ _ t.fresh _ (sym t.said ∙ c.in_err-surveyed-in-Ok.was))

pub returns-in_ok-surveyed-in-Ok : goal.returns-in_ok-surveyed-in-Ok
returns-in_ok-surveyed-in-Ok c =
    let t = surveyed-tells _ _ (sym c.in-Ok.ensures) in
    judge-accepted _ _ _ t.fresh _ c.is.ensures c.if-not-is.false _ (fresh-good _ _ t.fresh _ (sym t.said ∙ c.in_ok-surveyed-in-Ok.was))
