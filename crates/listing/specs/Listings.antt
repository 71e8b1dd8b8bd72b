-- Document 01, "Refusal numbers": the listing of a file, checks 1 to 10.
use Rattle.std.specs.Prelude.{ℕ, Bool, ◌||◌, List, [], ◌∷◌, eqb, leb, ltb}
use Rattle.le.specs.Choice.{every}
use Rattle.chunk.specs.declared.Entry.{Entry}
use Rattle.chunk.specs.declared.Refusal.TheVariants.{BadChunkSet}
use Rattle.chunk.specs.Refusals.{Answer, Ok, check, and_then}
use Rattle.chunk.specs.Names.{FMT, DATA, FACT, BEXT, CHNA}
use Rattle.chunk.specs.Tables.{count, find, LIMIT}
use Rattle.chunk.specs.Walks.{Walked, walk}
use Rattle.form.specs.declared.Head.{Head}
use Rattle.form.specs.Forms.{head_of}
use Rattle.truesize.specs.Sizes.{true_size, entries_of}

-- check 10: "exactly one fmt and one data, fmt first, and at most one each of bext, chna and fact; fact holds at least 4
-- bytes"
unfoldable pub chunks_good : List Entry → Bool
unfolding every
chunks_good rows =
    every
    (eqb (count FMT rows) 1
    ∷ eqb (count DATA rows) 1
    ∷ ltb (find FMT rows).place (find DATA rows).place
    ∷ leb (count BEXT rows) 1
    ∷ leb (count CHNA rows) 1
    ∷ leb (count FACT rows) 1
    ∷ (eqb (count FACT rows) 0 || leb 4 (find FACT rows).size)
    ∷ [])

-- a file's form and its table
pub record Listing : Type 0 where
  pub head : Head
  pub rows : List Entry

-- the walk of the headers by the true sizes
unfoldable pub headers : Head → List ℕ → Walked
headers h s = walk (true_size h (entries_of h s)) s LIMIT 12

unfoldable pub listing : List ℕ → Answer Listing
unfolding and_then check
listing s =
    and_then (head_of s) λ h.
    and_then (headers h s).end λ _.
    check (chunks_good (headers h s).rows) BadChunkSet
    (Ok (record { head = h; rows = (headers h s).rows }))
