-- What the code alone needs: the step at a whole header, told apart by what follows the chunk. proofs/Turns.antt shows that
-- the document's walk goes on as this step says.
use Rattle.std.specs.Prelude.{ℕ, ◌+◌, ◌-◌, ◌%◌, ◌^◌, ◌≤◌, ◌<◌, ◌≡◌, List, [], ◌∷◌, length, eqb, ltb, leb}
use Rattle.le.specs.Number.{number}
use Rattle.le.specs.Choice.{pick}
use Rattle.chunk.specs.declared.Entry.{Entry}
use Rattle.chunk.specs.declared.Header.{Header}
use Rattle.chunk.specs.declared.TrueSize.{TrueSize}
use Rattle.chunk.specs.declared.Refusal.TheVariants.{CutHeader, TooMany, PastEnd}
use Rattle.chunk.specs.declared.Step.{Step}
use Rattle.chunk.specs.declared.Step.TheVariants.{Chunk, Last, Cut, Stop}
use Rattle.chunk.specs.Refusals.{Answer, Err, Ok}
use Rattle.chunk.specs.Walks.{Rule, Walked, entry_of, past}

-- the header ahead of a place
unfoldable pub header_of : ℕ → List ℕ → Header
header_of place s = record { name = number 4 (place - 8) s; field = number 4 (place - 4) s }

-- its two fields, each of which fits its 32 bits
pub record HeaderAt (place : ℕ) (s : List ℕ) (h : Header) : Type 0 where
  pub name : h.name ≡ number 4 (place - 8) s
  pub field : h.field ≡ number 4 (place - 4) s
  pub name_fits : h.name < 2 ^ 32
  pub field_fits : h.field < 2 ^ 32

-- a whole header stands ahead of a place, which is even
pub record Due (s : List ℕ) (place : ℕ) : Type 0 where
  pub start : 8 ≤ place
  pub whole : place ≤ length s
  pub even : place % 2 ≡ 0

-- the same, with a size for which no sum wraps
pub record Fits (len place : ℕ) (size : TrueSize) : Type 0 where
  pub start : 8 ≤ place
  pub whole : place ≤ len
  pub even : place % 2 ≡ 0
  pub small : place + size.bytes + 9 < 2 ^ 64

-- a chunk with no whole header after it
unfoldable pub ends_at : ℕ → ℕ → Entry → Step
unfolding pick
ends_at len next e = pick (ltb len next) (Stop PastEnd) (pick (eqb len next) (Last e) (Cut e))

unfoldable pub placed_in : ℕ → Entry → Step
unfolding pick
placed_in len e = pick (leb (past e + 8) len) (Chunk e (past e + 8)) (ends_at len (past e) e)

-- the rule's answer at a header
unfoldable pub found_as : ℕ → ℕ → ℕ → Answer TrueSize → Step
found_as len place name (Err r) = Stop r
found_as len place name (Ok size) = placed_in len (entry_of place name size)

unfoldable pub step_on : Rule → List ℕ → ℕ → Step
step_on rule s place =
    found_as (length s) place (number 4 (place - 8) s) (rule (place - 8) (number 4 (place - 8) s) (number 4 (place - 4) s))

-- the walk after a step: the chunk, and then what the walk from the next header shows
unfoldable pub walk_after : Step → (ℕ → Walked) → Walked
walk_after (Chunk e next) rest = record { rows = e ∷ (rest (next - 8)).rows; end = (rest (next - 8)).end }
walk_after (Last e) rest = record { rows = e ∷ []; end = Ok tt }
walk_after (Cut e) rest = record { rows = e ∷ []; end = Err CutHeader }
walk_after (Stop r) rest = record { rows = []; end = Err r }

-- a header is due where no more may come
unfoldable pub full : ℕ → Walked
full at = record { rows = []; end = Err TooMany }
