-- What a writer answers and leaves: "Bytes of any output past what is written stay untouched", and after a refusal all of
-- them (the customer's demand 1).
use Rattle.std.specs.Prelude.{ℕ, ◌≡◌, List, [], ◌∷◌, ◌++◌, length, drop, leb}
use Rattle.chunk.specs.declared.Refusal.TheVariants.{ShortOutput}
use Rattle.chunk.specs.Refusals.{Answer, Err, Ok, check, and_then}

-- the bytes to write, or 15 where the output is too short for them
unfoldable pub fitting : List ℕ → Answer (List ℕ) → Answer (List ℕ)
unfolding and_then check
fitting out a = and_then a λ bs. check (leb (length bs) (length out)) ShortOutput (Ok bs)

-- the writer's answer: how many bytes it wrote
unfoldable pub written_of : Answer (List ℕ) → Answer ℕ
written_of (Err r) = Err r
written_of (Ok bs) = Ok (length bs)

-- its value
unfoldable pub written_values : Answer ℕ → List ℕ
written_values (Ok n) = n ∷ []
written_values (Err r) = 0 ∷ []

-- the output after it
unfoldable pub output_of : List ℕ → Answer (List ℕ) → List ℕ
output_of out (Err r) = out
output_of out (Ok bs) = bs ++ drop (length bs) out

-- What a writer of these bytes, or of their refusal, answers and leaves in its output: the refusal, or 15 where the output is
-- too short, and every byte as it was; or their number, and the bytes at its start.
pub record Writes (a : Answer (List ℕ)) (entry exit : List ℕ) (r : Answer ℕ) : Type 0 where
  pub answers : r ≡ written_of (fitting entry a)
  pub leaves : exit ≡ output_of entry (fitting entry a)
