-- The customer's demand 3: its second half, and both halves as one statement, which proofs/Demand3.antt proves. The first
-- half stands in the wave crate. In quotation marks stand words of the demand, and of document 01 where the upgrade's stores
-- are told.
use Rattle.std.specs.Prelude.{ℕ, ◌+◌, ◌-◌, ◌≤◌, ◌≡◌, ◌↔◌, ◌⊎◌, true, length, get_or, eqb}
use mathlib.Core.List.{List, [], ◌∷◌, map, Memᴰ}
use Rattle.le.specs.Number.{Bytes, number}
use Rattle.le.specs.Choice.{pick}
use Rattle.chunk.specs.declared.Entry.{Entry}
use Rattle.chunk.specs.declared.Source.{Source}
use Rattle.chunk.specs.declared.Source.TheVariants.{Own, DataSize}
use Rattle.chunk.specs.declared.Refusal.TheVariants.{UnknownSize, NoReserve}
use Rattle.chunk.specs.Refusals.{Err, Ok}
use Rattle.chunk.specs.Names.{DS64, JUNK, DATA, FACT}
use Rattle.chunk.specs.Fields.{ONES}
use Rattle.chunk.specs.Tables.{find}
use Rattle.form.specs.declared.Form as form
use Rattle.form.specs.declared.Form.TheVariants as form-variants
use Rattle.form.specs.Forms.{LEAST}
use Rattle.wave.specs.Scans.{Scan, scan, payload, walk32}
use Rattle.samples.specs.Counts.{samples_of}
use Rattle.wave.specs.Demand3.{SaysOwn, FirstHalf}
use Rattle.upgrade.specs.declared.Target.{Target}
use Rattle.upgrade.specs.declared.Target.TheVariants.{Rf64, Bw64}
use Rattle.upgrade.specs.Upgrades.{has_fact, third_for, target_name, patches, patched, upgraded}

-- "the first chunk is JUNK of at least 28 bytes"
unfoldable pub Reserved : List Entry → Type 0
Reserved [] = ⊥
Reserved (e ∷ es) = (e.name ≡ JUNK) × (LEAST ≤ e.size)

-- "the same names, places and sizes in the same order, except that the first name is now ds64"
unfoldable pub renamed : List Entry → List Entry
renamed [] = []
renamed (e ∷ es) = record { name = DS64; place = e.place; size = e.size; source = e.source } ∷ es

-- where a size comes from now (document 02): "In demand 3 this mark changes for data alone", whose field is all ones now
unfoldable pub source_now : Entry → Source
unfolding pick
source_now e = pick (eqb e.name DATA) DataSize e.source

abbrev pub marked : Entry → Entry
marked e = record { name = e.name; place = e.place; size = e.size; source = source_now e }

-- the chunks ahead of the first of a name
unfoldable pub ahead_of : ℕ → List Entry → List Entry
unfolding pick
ahead_of name [] = []
ahead_of name (e ∷ es) = pick (eqb e.name name) [] (e ∷ ahead_of name es)

unfoldable pub target_form : Target → form.Form
target_form Rf64 = form-variants.Rf64
target_form Bw64 = form-variants.Bw64

-- ---- what the upgrade changes

-- a run of bytes
pub record Span : Type 0 where
  pub from : ℕ
  pub size : ℕ

unfoldable pub span : ℕ → ℕ → Span
span at n = record { from = at; size = n }

unfoldable pub fact_span : Target → Scan → List Span
unfolding pick
fact_span Rf64 a = pick (has_fact a) (span (find FACT a.rows).place 4 ∷ []) []
fact_span Bw64 a = []

-- "changes only: the form name and field, JUNK's name and first 28 payload bytes, data's size field, and, for RF64 with
-- fact, fact's first 4 bytes"
unfoldable pub changed : Target → Scan → List Span
changed t a =
    span 0 4
    ∷ span 4 4
    ∷ span 12 4
    ∷ span 20 LEAST
    ∷ span ((find DATA a.rows).place - 4) 4
    ∷ fact_span t a

-- the n bytes at one place and the m bytes at another have none in common
abbrev pub Off : ℕ → ℕ → ℕ → ℕ → Type 0
Off n at m from = (at + n ≤ from) ⊎ (from + m ≤ at)

-- the n bytes at a place lie outside every one of these runs
unfoldable pub Beside : ℕ → ℕ → List Span → Type 0
Beside n at [] = Unit {0}
Beside n at (x ∷ xs) = Off n at x.size x.from × Beside n at xs

-- what the changed bytes hold: "The form and data fields become all ones; the 28 bytes hold the true form size, the true
-- data size, the third number and an entry count of 0"
pub record Holds (t : Target) (s : List ℕ) (a : Scan) (u : List ℕ) : Type 0 where
  pub form_name : number 4 0 u ≡ target_name t
  pub form_field : number 4 4 u ≡ ONES
  pub name : number 4 12 u ≡ DS64
  pub form_size : number 8 20 u ≡ length s - 8
  pub data_size : number 8 28 u ≡ (find DATA a.rows).size
  pub third : number 8 36 u ≡ third_for t a s
  pub entries : number 4 44 u ≡ 0
  pub data_field : number 4 ((find DATA a.rows).place - 4) u ≡ ONES
  pub fact : t ≡ Rf64 → has_fact a ≡ true → number 4 (find FACT a.rows).place u ≡ ONES

-- ---- the second half

-- After a success, of the old file s, its scan a and the new file u:
pub record Upgraded (t : Target) (s : List ℕ) (a : Scan) (u : List ℕ) : Type 0 where
  -- "every byte is what document 01's rule for the upgrade makes of the old file": the rule itself; and what that comes to,
  -- the same length, the named fields, and every other byte as it was
  pub bytes : u ≡ patched (patches t a s) s
  pub long : length u ≡ length s
  pub fields : Holds t s a u
  pub others : (i : ℕ) → Beside 1 i (changed t a) → get_or u i 0 ≡ get_or s i 0
  -- "The scan accepts it, with the same names, places and sizes in the same order, except that the first name is now ds64";
  -- the source of data's size was its own field and is ds64's data size, and every other is as it was
  pub again : Scan
  pub accepted : scan u ≡ Ok again
  pub rows : again.rows ≡ map marked (renamed a.rows)
  pub form : again.head.form ≡ target_form t
  pub format : again.format ≡ a.format
  -- "Every audio byte is the same"
  pub audio : payload (find DATA again.rows) u ≡ payload (find DATA a.rows) s
  -- "and so is the sample count as document 01 defines it: the same number, or none both times"
  pub samples : samples_of u ≡ samples_of s
  -- "The 32-bit walk shows every chunk ahead of data and stops at data with 7."
  pub walk : walk32 u ≡ record { rows = ahead_of DATA again.rows; end = Err UnknownSize }

-- Of a RIFF file that the scan accepts, and RF64 or BW64 as target:
pub record SecondHalf (t : Target) (s : List ℕ) (a : Scan) : Type 0 where
  -- "Upgrading succeeds exactly when the first chunk is JUNK of at least 28 bytes"
  pub succeeds : ((u : List ℕ) × (upgraded t s ≡ Ok u)) ↔ Reserved a.rows
  -- "otherwise it gives 19"
  pub otherwise : (Reserved a.rows → ⊥) → upgraded t s ≡ Err NoReserve
  -- before it, each size came from its chunk's own field
  pub before : (e : Entry) → Memᴰ e a.rows → e.source ≡ Own
  -- "After a success .."
  pub after : (u : List ℕ) → upgraded t s ≡ Ok u → Upgraded t s a u

-- ---- demand 3, whole

pub record Demand3 : Type 0 where
  -- "Take any file that the scan accepts .. and read it with the plain 32-bit walk"
  pub first : (s : List ℕ) (a : Scan) → scan s ≡ Ok a → FirstHalf s a
  -- "The 32-bit walk only ever says own field" (document 02), of any bytes
  pub own : (s : List ℕ) → SaysOwn s
  -- "Now take any accepted RIFF file, and RF64 or BW64 as target."
  pub second : (t : Target) (s : List ℕ) (a : Scan) → Bytes s → scan s ≡ Ok a → a.head.form ≡ form-variants.Riff
      → SecondHalf t s a
