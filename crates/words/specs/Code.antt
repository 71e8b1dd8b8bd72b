-- What only the code's contracts need.
use Rattle.std.specs.Prelude.{ℕ, ◌≡◌, ◌≤◌, List, length}
use Rattle.std.specs.Fn.{Once, FnOnceReturnsAtMut}
use Rattle.std.proofs.lemmas.List.Edits.{sets}
use Rattle.chunk.specs.Refusals.{Answer, Ok, number_of}
use Rattle.chunk.specs.Writes.{written_values, Writes}
use Rattle.words.specs.Answers.{WritesOut}
use denote.Ref.{MutBor}

-- an answer told: its number, and its bytes in the first word, if there is one
pub record Tells (x : Answer ℕ) (w : List ℕ) (r : ℕ) (w' : List ℕ) : Type 0 where
  pub number : r ≡ number_of x
  pub words : w' ≡ sets w 0 (written_values x)

-- what is to be written is not empty
abbrev pub Filled : Answer (List ℕ) → Type 0
Filled a = (bs : List ℕ) → a ≡ Ok bs → 1 ≤ length bs

-- functions of an output
abbrev pub Writers : Type 0 → Type 1
Writers F = Once F (MutBor (List ℕ) × Unit {0}) (Answer ℕ × (MutBor (List ℕ) × Unit {0}))

-- one that writes a, or answers its refusal
pub record IsWriter {F : Type 0} (g : Writers F) (f : F) (a : Answer (List ℕ)) : Type 0 where
  pub filled : Filled a
  pub writes : (s : List ℕ) (r : Answer ℕ) (t : List ℕ) → FnOnceReturnsAtMut g f s r t → Writes a s t r

-- what is left where it is lent an output: what the export of its writing leaves
abbrev pub Lends : {F : Type 0} → Writers F → F → (out w : List ℕ) (r : ℕ) (out' w' : List ℕ) → Type 0
Lends g f out w r out' w' = (a : Answer (List ℕ)) → IsWriter g f a → WritesOut a out w r out' w'
