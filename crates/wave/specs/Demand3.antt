-- The customer's demand 3, first half: the words of the statement, which proofs/FirstHalf proves of every list of bytes.
use Rattle.std.specs.Prelude.{ℕ, ◌≡◌, eqb}
use mathlib.Core.List.{List, [], ◌∷◌, ◌++◌, Memᴰ}
use Rattle.le.specs.Choice.{pick}
use Rattle.chunk.specs.declared.Entry.{Entry}
use Rattle.chunk.specs.declared.Source.TheVariants.{Own}
use Rattle.chunk.specs.declared.Refusal.TheVariants.{UnknownSize}
use Rattle.chunk.specs.Refusals.{Err, Ok, Verdict}
use Rattle.chunk.specs.Fields.{ONES}
use Rattle.wave.specs.Scans.{Scan, walk32}
use Rattle.wave.specs.Tables.{own_field}

-- "the first chunk whose own size field is all ones": the rows ahead of it
unfoldable pub ahead : List ℕ → List Entry → List Entry
unfolding pick
ahead s [] = []
ahead s (e ∷ es) = pick (eqb (own_field s e) ONES) [] (e ∷ ahead s es)

-- refusal 7 where there is such a chunk, else none
unfoldable pub stop : List ℕ → List Entry → Verdict
unfolding pick
stop s [] = Ok tt
stop s (e ∷ es) = pick (eqb (own_field s e) ONES) (Err UnknownSize) (stop s es)

-- "The 32-bit walk only ever says own field": of every list of bytes
unfoldable pub SaysOwn : List ℕ → Type 0
SaysOwn s = (e : Entry) → Memᴰ e (walk32 s).rows → e.source ≡ Own

-- none of these rows has an all-ones field
unfoldable pub Sized : List ℕ → List Entry → Type 0
Sized s rows = (e : Entry) → Memᴰ e rows → own_field s e ≡ ONES → ⊥

-- Of a file that the scan accepts, read with the plain 32-bit walk:
pub record FirstHalf (s : List ℕ) (a : Scan) : Type 0 where
  -- "It shows exactly the chunks ahead of the first chunk whose own size field is all ones, each as the scan's table shows
  -- it", its source too, "and in that order, then stops there with refusal 7."
  pub stops : (xs : List Entry) (e : Entry) (ys : List Entry) → a.rows ≡ xs ++ e ∷ ys → Sized s xs → own_field s e ≡ ONES
      → walk32 s ≡ record { rows = xs; end = Err UnknownSize }
  -- "With no such chunk it shows the whole table and ends with no refusal."
  pub whole : Sized s a.rows → walk32 s ≡ record { rows = a.rows; end = Ok tt }
  -- both at once, as one equation
  pub walk : walk32 s ≡ record { rows = ahead s a.rows; end = stop s a.rows }

-- The same of a file that is listed, with these rows: "The 32-bit walk is also compared with every accepted listing" (document
-- 02), also of a file that the scan refuses
pub record ListHalf (s : List ℕ) (rows : List Entry) : Type 0 where
  pub stops : (xs : List Entry) (e : Entry) (ys : List Entry) → rows ≡ xs ++ e ∷ ys → Sized s xs → own_field s e ≡ ONES
      → walk32 s ≡ record { rows = xs; end = Err UnknownSize }
  pub whole : Sized s rows → walk32 s ≡ record { rows = rows; end = Ok tt }
  pub walk : walk32 s ≡ record { rows = ahead s rows; end = stop s rows }
