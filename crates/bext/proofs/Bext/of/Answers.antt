-- `bext::Bext::of` meets its contract: each rule that is broken is told, and where none is the record.
use mathlib.Core.Path.{◌∙◌, sym, ap}
use native.Mathlib.Omega.{arith}
use lib.ListN.{length}
use lib.Seq.{length-take-le}
use borrow.Author.Tests.{lt-leb}
use Rattle.le.specs.Number.{field}
use Rattle.bext_parts.specs.Code.{part_of}
use Rattle.bext_parts.specs.Parts.{text_of, text_good}
use Rattle.bext_parts.proofs.Parts.{part-good, part-broken}
use Rattle.bext.specs.Records.{rules_of}
use Rattle.bext.proofs.Answers.{to_the_end, rule-broken, rules-kept}
use Rattle.bext.proofs.Bext.of.Goals as goal

pub returns-then-payload-lt-HISTORY : goal.returns-then-payload-lt-HISTORY
unfolding rules_of
returns-then-payload-lt-HISTORY c = rule-broken _ 0 (lt-leb 602 _ c.if-payload-lt-HISTORY.true)

pub slice_bounds-text-end : goal.slice_bounds-text-end
slice_bounds-text-end c = sym (length-take-le 256 c.args.payload.now (omega arith))

pub returns-in_err-description_len : goal.returns-in_err-description_len
unfolding field rules_of
returns-in_err-description_len c = c.from_residual.ensures ∙ rule-broken _ 1 (part-broken _ _ c.text.ensures c.in_err-description_len.was)

pub returns-in_err-originator_len : goal.returns-in_err-originator_len
unfolding field rules_of
returns-in_err-originator_len c = c.from_residual-in_err-originator_len.ensures ∙ rule-broken _ 2 (part-broken _ _ c.text-2.ensures c.in_err-originator_len.was)

pub returns-in_err-reference_len : goal.returns-in_err-reference_len
unfolding field rules_of
returns-in_err-reference_len c = c.from_residual-in_err-reference_len.ensures ∙ rule-broken _ 3 (part-broken _ _ c.text-3.ensures c.in_err-reference_len.was)

pub returns-in_err-date : goal.returns-in_err-date
unfolding field rules_of
returns-in_err-date c = c.from_residual-in_err-date.ensures ∙ rule-broken _ 4 (part-broken _ _ c.date.ensures c.in_err-date.was)

pub returns-in_err-time : goal.returns-in_err-time
unfolding field rules_of
returns-in_err-time c = c.from_residual-in_err-time.ensures ∙ rule-broken _ 5 (part-broken _ _ c.time.ensures c.in_err-time.was)

pub returns-then-not-rest_good : goal.returns-then-not-rest_good
unfolding field rules_of
returns-then-not-rest_good c =
    let told = sym c.rest_good.ensures ∙ c.if-not-rest_good.true in
    rule-broken _ 6 (rw c.read-version.ensures.is at told)

pub returns-in_err-history_len : goal.returns-in_err-history_len
unfolding rules_of
returns-in_err-history_len c =
    let told = c.text-4.ensures ∙ ap (λ l. part_of (text_good l) (length (text_of l))) (to_the_end 602 c.args.payload.now) in
    c.from_residual-in_err-history_len.ensures ∙ rule-broken _ 7 (part-broken _ _ told c.in_err-history_len.was)

pub returns : goal.returns
unfolding field
returns c =
    let told = c.text-4.ensures ∙ ap (λ l. part_of (text_good l) (length (text_of l))) (to_the_end 602 c.args.payload.now) in
    rules-kept c.args.payload.now
    c.if-payload-lt-HISTORY.false
    (part-good _ _ _ c.text.ensures c.in_ok-description_len.was)
    (part-good _ _ _ c.text-2.ensures c.in_ok-originator_len.was)
    (part-good _ _ _ c.text-3.ensures c.in_ok-reference_len.was)
    (part-good _ _ _ c.date.ensures c.in_ok-date.was)
    (part-good _ _ _ c.time.ensures c.in_ok-time.was)
    c.read-version.ensures.is
    (sym c.rest_good.ensures ∙ c.if-not-rest_good.false)
    (part-good _ _ _ told c.in_ok-history_len.was)
    c.read.ensures.is
