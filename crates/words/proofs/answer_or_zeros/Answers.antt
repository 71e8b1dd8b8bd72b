-- `words::answer_or_zeros` meets its contract: the number and the values of an answer, or of a refusal.
use Rattle.std.proofs.Common.{◌≡◌, ◌∙◌, sym, ap, refl, arith, ℕ, List, length, replicate}
use Rattle.std.proofs.lemmas.List.{length-replicate}
use lib.Seq.{sets}
use Rattle.chunk.specs.Refusals.{Answer, Ok, Err, number_of}
use Rattle.words.specs.Answers.{values_of}
use Rattle.words.proofs.Answered.{same}
use Rattle.words.proofs.answer_or_zeros.Goals as goal

values-ok : (n : ℕ) (v : List ℕ) → v ≡ values_of n (Ok v)
unfolding values_of
values-ok n v = refl

values-err : (n : ℕ) (x : Answer (List ℕ)) → (r : _) → x ≡ Err r → replicate n 0 ≡ values_of n x
unfolding values_of
values-err n x r e = rw e

pub returns-in-Ok : goal.returns-in-Ok
returns-in-Ok g c =
    let long : length c.in-Ok.values ≡ g.row.N = omega arith in
    same g.row.N _ _ _ _ _ _ _ (sym (ap (number_of {A = List ℕ}) c.in-Ok.is))
    (ap (sets c.args.words.now 0) (values-ok g.row.N c.in-Ok.values ∙ ap (values_of g.row.N) (sym c.in-Ok.is)))
    (rw long at c.answer.ensures)

pub returns-in-Err : goal.returns-in-Err
returns-in-Err g c =
    let long : length (replicate {A = ℕ} g.row.N 0) ≡ g.row.N = length-replicate g.row.N 0 in
    same g.row.N _ _ _ _ _ _ _ (c.from.ensures ∙ sym (ap (number_of {A = List ℕ}) c.in-Err.is))
    (ap (sets c.args.words.now 0) (values-err g.row.N c.args.values _ c.in-Err.is))
    (rw long at c.answer-in-Err.ensures)
