-- `wave::judgement::survey` meets its contract: the listing, then what its judgement says.
use Rattle.std.proofs.Common.{rules, ◌≡◌, Ok, Err}
use mathlib.Core.Path.{sym, ap, ◌∙◌}
use Rattle.chunk.specs.Refusals.{Answer}
use Rattle.fmt.specs.declared.Format.{Format}
use Rattle.wave.specs.Code.{surveyed_of}
use Rattle.wave.proofs.Surveys.{survey-none, survey-listed}
use Rattle.wave.proofs.judgement.survey.Goals as goal

pub returns-in_err-listing : goal.returns-in_err-listing
returns-in_err-listing c =
    let h : c.from_residual.result ≡ Err c.in_err-listing.field-0.0 = search rules in
    h ∙ sym (survey-none _ _ (sym c.in_err-listing.ensures))

pub returns : goal.returns
unfolding surveyed_of
returns c =
    ap (λ (x : Answer Format). Ok (record { listing = c.in_ok-listing.listing; said = x })) c.judge-said.ensures
    ∙ sym (survey-listed _ _ (sym c.in_ok-listing.ensures))
