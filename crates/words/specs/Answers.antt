-- What an export answers, as include/symphedra.h lays it out: a number, and in lent words what goes with it.
use Rattle.std.specs.Prelude.{ℕ, ◌≡◌, List, length, replicate, leb}
use Rattle.std.proofs.lemmas.List.Edits.{sets}
use Rattle.le.specs.Choice.{pick}
use Rattle.chunk.specs.declared.Refusal.TheVariants.{ShortOutput}
use Rattle.chunk.specs.Refusals.{refusal_number, Answer, Ok, Err, number_of, check, and_then}
use Rattle.chunk.specs.Writes.{fitting, written_of, written_values, output_of}

-- An answer into lent words: 15 and the words as they were where they are fewer than the least; else the answer's number
-- and the new words.
pub record Answers (least number : ℕ) (new w : List ℕ) (r : ℕ) (w' : List ℕ) : Type 0 where
  pub returns : r ≡ pick (leb least (length w)) number (refusal_number ShortOutput)
  pub words : w' ≡ pick (leb least (length w)) new w

-- the values of an answer, or n zeros where it is refused
unfoldable pub values_of : ℕ → Answer (List ℕ) → List ℕ
values_of n (Ok v) = v
values_of n (Err r) = replicate n 0

-- where there is no word for the bytes written the call gives 15, in 15's place after 16 and 17
unfoldable pub counted : List ℕ → List ℕ → Answer (List ℕ) → Answer (List ℕ)
unfolding and_then check
counted out w a = and_then (fitting out a) λ bs. check (leb 1 (length w)) ShortOutput (Ok bs)

-- What a writer of the bytes a, or of their refusal, answers, and leaves in its output and in its word.
pub record WritesOut (a : Answer (List ℕ)) (out w : List ℕ) (r : ℕ) (out' w' : List ℕ) : Type 0 where
  pub number : r ≡ number_of (written_of (counted out w a))
  pub bytes : out' ≡ output_of out (counted out w a)
  pub words : w' ≡ sets w 0 (written_values (written_of (counted out w a)))
