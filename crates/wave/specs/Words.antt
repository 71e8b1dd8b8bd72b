-- What the entries of this crate answer, and what every lent word holds when they return.
use Rattle.std.specs.Prelude.{ℕ, ◌≡◌, List, length, leb}
use Rattle.le.specs.Choice.{pick}
use Rattle.chunk.specs.declared.Entry.{Entry}
use Rattle.chunk.specs.declared.Refusal.TheVariants.{ShortOutput}
use Rattle.chunk.specs.Refusals.{Err, Verdict, verdict_of}
use Rattle.chunk.specs.Tables.{tabled, table_of, WORDS}
use Rattle.listing.specs.Listings.{listing}
use Rattle.wave.specs.declared.Tabled.{Tabled}
use Rattle.wave.specs.Scans.{scan, rows_of, listed_rows, walk32}

-- A table into words, of an operation that ends so and has these rows: 15 where the words are fewer than a table has, and then
-- they stay; else its verdict, and the words of its table.
pub record Done (v : Verdict) (rows : List Entry) (w : List ℕ) (r : Verdict) (w' : List ℕ) : Type 0 where
  pub verdict : r ≡ pick (leb WORDS (length w)) v (Err ShortOutput)
  pub words : w' ≡ pick (leb WORDS (length w)) (tabled rows w) w

-- the scan by value
unfoldable pub scan_table : List ℕ → Tabled
scan_table s = record { table = table_of (rows_of (scan s)); verdict = verdict_of (scan s) }

-- and into words, whose table is empty where it refuses
abbrev pub ScanDone : (s w : List ℕ) → Verdict → List ℕ → Type 0
ScanDone s w r w' = Done (verdict_of (scan s)) (rows_of (scan s)) w r w'

-- the listing by value
unfoldable pub list_table : List ℕ → Tabled
list_table s = record { table = table_of (listed_rows (listing s)); verdict = verdict_of (listing s) }

-- and into words, as the scan
abbrev pub ListDone : (s w : List ℕ) → Verdict → List ℕ → Type 0
ListDone s w r w' = Done (verdict_of (listing s)) (listed_rows (listing s)) w r w'

-- the 32-bit walk by value
unfoldable pub walk_table : List ℕ → Tabled
walk_table s = record { table = table_of (walk32 s).rows; verdict = (walk32 s).end }

-- and into words, which keep the chunks ahead of its stop
abbrev pub WalkDone : (s w : List ℕ) → Verdict → List ℕ → Type 0
WalkDone s w r w' = Done (walk32 s).end (walk32 s).rows w r w'
