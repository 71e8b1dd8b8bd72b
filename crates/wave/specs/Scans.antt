-- Document 01, "Refusal numbers" and "The 32-bit walk": the scan as a listing (checks 1 to 10) and a judgement (11 and
-- 12), and the 32-bit walk.
use Rattle.std.specs.Prelude.{ℕ, ◌%◌, List, [], eqb}
use Rattle.le.specs.Number.{field}
use Rattle.chunk.specs.declared.Entry.{Entry}
use Rattle.chunk.specs.declared.Refusal.TheVariants.{RaggedAudio}
use Rattle.chunk.specs.Refusals.{Answer, Err, Ok, check, and_then}
use Rattle.chunk.specs.Names.{FMT, DATA}
use Rattle.chunk.specs.Tables.{find, LIMIT}
use Rattle.chunk.specs.Walks.{Walked, walk, own_size}
use Rattle.form.specs.declared.Head.{Head}
use Rattle.form.specs.Forms.{open_for32}
use Rattle.listing.specs.Listings.{Listing, listing}
use Rattle.fmt.specs.declared.Format.{Format}
use Rattle.fmt.specs.Formats.{format_in}

-- ---- the judgement: checks 11 and 12

-- "A chunk's payload is handed to its reader as the part of the file that starts at its place"
unfoldable pub payload : Entry → List ℕ → List ℕ
payload e s = field e.size e.place s

-- check 12: "The data size is a whole number of blocks"
unfoldable pub whole_blocks : ℕ → Format → Answer Format
unfolding check
whole_blocks size f = check (eqb (size % f.block) 0) RaggedAudio (Ok f)

-- over the fmt payload and the data size
unfoldable pub judged : List ℕ → ℕ → Answer Format
unfolding and_then
judged p size = and_then (format_in p) λ f. whole_blocks size f

-- of the rows of a file: "a judgement of fmt and block size over a listing and its file" (document 02)
abbrev pub judged_in : List Entry → List ℕ → Answer Format
judged_in rows s = judged (payload (find FMT rows) s) (find DATA rows).size

-- ---- the scan

-- an accepted file: its form, its table and its format
pub record Scan : Type 0 where
  pub head : Head
  pub rows : List Entry
  pub format : Format

-- the listing of an accepted file
abbrev pub listing_of : Scan → Listing
listing_of a = record { head = a.head; rows = a.rows }

unfoldable pub scan : List ℕ → Answer Scan
unfolding and_then
scan s =
    and_then (listing s) λ l.
    and_then (judged (payload (find FMT l.rows) s) (find DATA l.rows).size) λ f.
    Ok (record { head = l.head; rows = l.rows; format = f })

-- "A refused scan .. returns its number and an empty result": the rows of its table
unfoldable pub rows_of : Answer Scan → List Entry
rows_of (Err r) = []
rows_of (Ok a) = a.rows

-- and those of a listing's
unfoldable pub listed_rows : Answer Listing → List Entry
listed_rows (Err r) = []
listed_rows (Ok l) = l.rows

-- ---- the 32-bit walk

-- the walk from where checks 1, 2 and 5 let it start, or their refusal with nothing shown
unfoldable pub walk_from : Answer ℕ → List ℕ → Walked
walk_from (Err r) s = record { rows = []; end = Err r }
walk_from (Ok at) s = walk own_size s LIMIT at

unfoldable pub walk32 : List ℕ → Walked
walk32 s = walk_from (open_for32 s) s
