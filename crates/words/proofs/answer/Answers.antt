-- `words::answer` meets its contract: too few words, or the values at the start of them.
use Rattle.std.proofs.Common.{◌≡◌, refl, arith}
use lib.Seq.{take-length}
use Rattle.words.proofs.Answered.{short, stored}
use Rattle.words.proofs.answer.Goals as goal

pub returns-then-words-values : goal.returns-then-words-values
returns-then-words-values c = rw c.from.ensures (short _ _ _ _ c.if-words-values.true)

pub returns : goal.returns
returns c =
    let v = c.args.values.now in
    let whole : c.copy_from_slice.new.self ≡ v = grind (arith, c.copy_from_slice.ensures.after, take-length v) in
    stored v _ _ _ _ refl c.if-words-values.false whole
