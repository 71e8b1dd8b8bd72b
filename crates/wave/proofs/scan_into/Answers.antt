-- `wave::scan_into` meets its contract: a law for each way that it ends.
use Rattle.std.proofs.Common.{rules, ◌≡◌, Err}
use mathlib.Core.Path.{sym}
use Rattle.wave.proofs.Ends.{accepted-ended, ended-room, done-short, scan_refused, scan-accepted}
use Rattle.wave.proofs.Judgements.{examined-refused, examined-accepted}
use Rattle.wave.proofs.scan_into.Goals as goal

pub returns-then-words-lt-WORDS : goal.returns-then-words-lt-WORDS
returns-then-words-lt-WORDS c =
    done-short _ _ _ c.if-words-lt-WORDS.true

pub invariant_of-listed : goal.invariant_of-listed
invariant_of-listed c =
    let k = examined-accepted _ _ _ (sym c.in_ok-accepted.ensures) in
    record { ended = accepted-ended _ _ _ k.scan k.is k.head k.count }

pub fill-requires : goal.fill-requires
fill-requires c =
    let k = examined-accepted _ _ _ (sym c.in_ok-accepted.ensures) in
    ended-room _ _ _ (accepted-ended _ _ _ k.scan k.is k.head k.count) _ c.if-words-lt-WORDS.false

pub returns-in_err-accepted : goal.returns-in_err-accepted
returns-in_err-accepted c =
    let h : c.from_residual.result ≡ Err c.in_err-accepted.field-0.0 = search rules in
    rw h (scan_refused _ _ _ c.if-words-lt-WORDS.false (examined-refused _ _ _ (sym c.in_err-accepted.ensures)))

pub returns : goal.returns
returns c =
    let k = examined-accepted _ _ _ (sym c.in_ok-accepted.ensures) in
    scan-accepted _ _ _ k.scan _ c.if-words-lt-WORDS.false k.is k.head c.fill.ensures
