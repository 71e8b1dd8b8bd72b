-- `wave::walk32_into` meets its contract: a law for each way that it ends.
use Rattle.std.proofs.Common.{rules, ◌≡◌, Err}
use mathlib.Core.Path.{sym}
use Rattle.wave.proofs.Ends.{room-kept, done-short, walk_refused, walk-done, verdict-refused, open32-told}
use Rattle.wave.proofs.walk32_into.Goals as goal

pub returns-then-words-lt-WORDS : goal.returns-then-words-lt-WORDS
returns-then-words-lt-WORDS c =
    done-short _ _ _ c.if-words-lt-WORDS.true

pub list32-requires : goal.list32-requires
list32-requires c =
    ((open32-told _ (sym c.in_ok-open32.ensures)).long, room-kept _ c.if-words-lt-WORDS.false)

pub returns-in_err-open32 : goal.returns-in_err-open32
returns-in_err-open32 c =
    let h : c.from_residual.result ≡ Err c.in_err-open32.field-0.0 = search rules in
    rw h (walk_refused _ _ _ c.if-words-lt-WORDS.false (verdict-refused _ _ (sym c.in_err-open32.ensures)))

pub returns : goal.returns
returns c =
    walk-done _ _ _ _ c.if-words-lt-WORDS.false (open32-told _ (sym c.in_ok-open32.ensures)).starts
    c.list32.ensures
