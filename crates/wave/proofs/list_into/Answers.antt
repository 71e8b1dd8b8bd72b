-- `wave::list_into` meets its contract: a law for each way that it ends.
use Rattle.std.proofs.Common.{rules, ◌≡◌, Err}
use mathlib.Core.Path.{sym}
use Rattle.wave.proofs.Ends.{fresh-ended, ended-room, done-short, list_refused, list-listed}
use Rattle.wave.proofs.Surveys.{surveyed-none, surveyed-tells}
use Rattle.wave.proofs.list_into.Goals as goal

pub returns-then-words-lt-WORDS : goal.returns-then-words-lt-WORDS
returns-then-words-lt-WORDS c =
    done-short _ _ _ c.if-words-lt-WORDS.true

pub invariant_of-listed : goal.invariant_of-listed
invariant_of-listed c =
    record { ended = fresh-ended _ _ (surveyed-tells _ _ (sym c.in_ok-surveyed.ensures)).fresh }

pub fill-requires : goal.fill-requires
fill-requires c =
    ended-room _ _ _ (fresh-ended _ _ (surveyed-tells _ _ (sym c.in_ok-surveyed.ensures)).fresh) _ c.if-words-lt-WORDS.false

pub returns-in_err-surveyed : goal.returns-in_err-surveyed
returns-in_err-surveyed c =
    let h : c.from_residual.result ≡ Err c.in_err-surveyed.field-0.0 = search rules in
    rw h (list_refused _ _ _ c.if-words-lt-WORDS.false (surveyed-none _ _ (sym c.in_err-surveyed.ensures)))

pub returns : goal.returns
returns c =
    list-listed _ _ _ _ c.if-words-lt-WORDS.false (surveyed-tells _ _ (sym c.in_ok-surveyed.ensures)).fresh c.fill.ensures
