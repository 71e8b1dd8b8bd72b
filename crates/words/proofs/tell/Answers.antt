-- `words::tell` meets its contract: there is no word, or it takes the count.
use mathlib.Core.Path.{◌≡◌, ◌∙◌, refl, ap}
use mathlib.Core.List.{List, [], ◌∷◌}
use Prim.Native.Nat.{ℕ, ◌<◌}
use native.Mathlib.Omega.{arith}
use lib.ListN.{length, set}
use lib.Seq.{sets}
use Rattle.std.specs.Result.{result_unwrap_or}
use Rattle.chunk.specs.Refusals.{Answer, Ok, Err}
use Rattle.chunk.specs.Writes.{written_values}
use Rattle.words.proofs.tell.Goals as goal
use Rattle.words.proofs.tell.Goals.{then-written-gt0, else-written-gt0}

no_word : (w : List ℕ) (x : Answer ℕ) → length w ≡ 0 → w ≡ sets w 0 (written_values x)
unfolding written_values
no_word [] (Ok n) h = refl
no_word [] (Err r) h = refl
no_word (v ∷ vs) x h = absurd (omega (arith, h))

told : (x : Answer ℕ) → result_unwrap_or x 0 ∷ [] ≡ written_values x
unfolding written_values
told (Ok n) = refl
told (Err r) = refl

with_word : (w : List ℕ) (n : ℕ) → 0 < length w → set w 0 n ≡ sets w 0 (n ∷ [])
with_word w n h = refl

pub returns : goal.returns
returns c =
    record {
      number = c.number.ensures;
      words = elim c.if-written-gt0.branch [
        | then-written-gt0 w ↦ w.written-is ∙ ap (sets c.args.written.now 0) (ap (λ (n : ℕ). n ∷ []) w.unwrap_or.ensures ∙ told _)
        | else-written-gt0 w ↦ w.written-is ∙ no_word _ _ (omega arith)
      ];
    }
