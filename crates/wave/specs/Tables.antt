-- What every accepted table is, and every listed one: the words of the statements, which proofs/Tables proves of every list
-- of bytes.
use Rattle.std.specs.Prelude.{ℕ, ◌+◌, ◌-◌, ◌≤◌, ◌<◌, ◌≡◌, true, length}
use mathlib.Core.List.{List, [], ◌∷◌, ◌++◌, Memᴰ}
use Rattle.le.specs.Number.{number}
use Rattle.chunk.specs.declared.Entry.{Entry}
use Rattle.chunk.specs.Names.{DS64, FMT, DATA}
use Rattle.chunk.specs.Fields.{ONES}
use Rattle.chunk.specs.Tables.{count, find, LIMIT}
use Rattle.chunk.specs.Walks.{past}
use Rattle.form.specs.Forms.{is_wide}
use Rattle.truesize.specs.Sizes.{entries_of}
use Rattle.truesize.specs.Told.{Marks}
use Rattle.listing.specs.Listings.{Listing}
use Rattle.wave.specs.Scans.{Scan}

-- a chunk's own size field, the four bytes ahead of its payload
unfoldable pub own_field : List ℕ → Entry → ℕ
own_field s e = number 4 (e.place - 4) s

-- the rows stand end to end: each header starts where the chunk before it, pad and all, has ended, the first at the given
-- offset, and the last chunk ends at the given end
unfoldable pub EndToEnd : ℕ → List Entry → ℕ → Type 0
EndToEnd at [] len = at ≡ len
EndToEnd at (e ∷ es) len = (e.place ≡ at + 8) × EndToEnd (past e) es len

-- Of a file that the scan accepts:
pub record GoodTable (s : List ℕ) (a : Scan) : Type 0 where
  -- "a 65th header" is refused; the table in file order, from byte 12 to the end of the file
  pub most : length a.rows ≤ LIMIT
  pub end_to_end : EndToEnd 12 a.rows (length s)
  -- each row has the name that its header has, and lies inside the file with its pad
  pub named : (e : Entry) → Memᴰ e a.rows → e.name ≡ number 4 (e.place - 8) s
  pub inside : (e : Entry) → Memᴰ e a.rows → (20 ≤ e.place) × (past e ≤ length s)
  -- each row ends ahead of the header of every later one
  pub apart : (xs : List Entry) (e : Entry) (ys : List Entry) → a.rows ≡ xs ++ e ∷ ys
      → (f : Entry) → Memᴰ f ys → past e ≤ f.place - 8
  -- "A size field that is not all ones is the true size."
  pub own : (e : Entry) → Memᴰ e a.rows → (own_field s e ≡ ONES → ⊥) → e.size ≡ own_field s e
  -- "Every table entry should say: own field, ds64 data size, or the position (from 0) of the ds64 entry used" (document 02), and
  -- what each says is so (truesize/specs/Told)
  pub marks : (e : Entry) → Memᴰ e a.rows
      → Marks a.head.ds64 (entries_of a.head s) e.name (own_field s e) (record { bytes = e.size; source = e.source })
  -- "exactly one fmt and one data, fmt first"
  pub one_fmt : count FMT a.rows ≡ 1
  pub one_data : count DATA a.rows ≡ 1
  pub fmt_first : (find FMT a.rows).place < (find DATA a.rows).place
  -- "RF64 and BW64 must have ds64 as first chunk, at byte 12"; "A ds64 anywhere else, or in RIFF, is refused."
  pub wide : is_wide a.head.form ≡ true
      → (e : Entry) × (es : List Entry) × (a.rows ≡ e ∷ es) × (e.name ≡ DS64) × (e.place ≡ 20)
  pub ds64 : (e : Entry) → Memᴰ e a.rows → e.name ≡ DS64 → (is_wide a.head.form ≡ true) × (e.place ≡ 20)

-- The same of a file that is listed, whether its format is good or not:
pub record ListedTable (s : List ℕ) (l : Listing) : Type 0 where
  pub most : length l.rows ≤ LIMIT
  pub end_to_end : EndToEnd 12 l.rows (length s)
  pub named : (e : Entry) → Memᴰ e l.rows → e.name ≡ number 4 (e.place - 8) s
  pub inside : (e : Entry) → Memᴰ e l.rows → (20 ≤ e.place) × (past e ≤ length s)
  pub apart : (xs : List Entry) (e : Entry) (ys : List Entry) → l.rows ≡ xs ++ e ∷ ys
      → (f : Entry) → Memᴰ f ys → past e ≤ f.place - 8
  pub own : (e : Entry) → Memᴰ e l.rows → (own_field s e ≡ ONES → ⊥) → e.size ≡ own_field s e
  pub marks : (e : Entry) → Memᴰ e l.rows
      → Marks l.head.ds64 (entries_of l.head s) e.name (own_field s e) (record { bytes = e.size; source = e.source })
  pub one_fmt : count FMT l.rows ≡ 1
  pub one_data : count DATA l.rows ≡ 1
  pub fmt_first : (find FMT l.rows).place < (find DATA l.rows).place
  pub wide : is_wide l.head.form ≡ true
      → (e : Entry) × (es : List Entry) × (l.rows ≡ e ∷ es) × (e.name ≡ DS64) × (e.place ≡ 20)
  pub ds64 : (e : Entry) → Memᴰ e l.rows → e.name ≡ DS64 → (is_wide l.head.form ≡ true) × (e.place ≡ 20)
