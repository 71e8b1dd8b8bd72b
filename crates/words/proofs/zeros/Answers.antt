-- `words::zeros` meets its contract: too few words, or so many zeros at the start of them.
use Rattle.std.proofs.Common.{◌≤◌, ◌∙◌, ap, arith, ℕ, length, replicate}
use Rattle.std.proofs.lemmas.List.{length-replicate}
use lib.Seq.{length-take-le}
use Rattle.words.proofs.Answered.{short, stored}
use Rattle.words.proofs.zeros.Goals as goal

pub returns-then-words-n : goal.returns-then-words-n
returns-then-words-n c = rw c.from.ensures (short _ _ _ _ c.if-words-n.true)

pub returns : goal.returns
returns c =
    let n = c.args.n in
    let long : n ≤ length c.args.words.now = omega arith in
    stored (replicate {A = ℕ} n 0) _ _ n _ (length-replicate n 0) long
    (c.fill.ensures.after (λ y e. e) ∙ ap (λ (k : ℕ). replicate {A = ℕ} k 0) (length-take-le _ _ long))
