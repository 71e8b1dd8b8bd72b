-- What a good file is, as bytes: document 01, "Shape of a file", in its words. Nothing here reads a file from header to
-- header. The last statements, which proofs/AcceptsExactly proves, say that the scan accepts these files and no others, and the
-- listing those that have their shape.
use Rattle.std.specs.Prelude.{ℕ, ◌+◌, ◌%◌, ◌^◌, ◌≤◌, ◌<◌, ◌≡◌, ◌↔◌, true, false, length}
use mathlib.Core.List.{List, [], ◌∷◌, ◌++◌, Memᴰ}
use Rattle.le.specs.Number.{Bytes, bytes}
use Rattle.chunk.specs.declared.Entry.{Entry}
use Rattle.chunk.specs.declared.Source.{Source}
use Rattle.chunk.specs.declared.TrueSize.{TrueSize}
use Rattle.chunk.specs.Refusals.{Ok}
use Rattle.chunk.specs.Names.{WAVE, DS64, FMT, DATA, FACT, BEXT, CHNA}
use Rattle.chunk.specs.Fields.{ONES}
use Rattle.chunk.specs.Tables.{count, find, LIMIT}
use Rattle.chunk.specs.Walks.{entry_of}
use Rattle.form.specs.declared.Form.{Form}
use Rattle.form.specs.declared.Ds64.{Ds64}
use Rattle.form.specs.Forms.{name_of, is_wide, no_ds64, ENTRIES}
use Rattle.truesize.specs.Sizes.{Ds64Entry}
use Rattle.truesize.specs.Told.{Told}
use Rattle.fmt.specs.Formats.{format_in}
use Rattle.listing.specs.Listings.{Listing, listing}
use Rattle.wave.specs.Scans.{Scan, scan}

-- ---- the bytes

-- "A chunk is a 4-byte name, a 32-bit size field, its payload, and one pad byte if the payload is odd." None of its bytes
-- says where its true size comes from: that is told by its field and by ds64.
pub record Chunk : Type 0 where
  pub name : ℕ
  pub field : ℕ
  pub payload : List ℕ
  pub pad : List ℕ
  pub source : Source

unfoldable pub chunk_bytes : Chunk → List ℕ
chunk_bytes c = bytes 4 c.name ++ (bytes 4 c.field ++ (c.payload ++ c.pad))

-- chunks end to end
unfoldable pub all_bytes : List Chunk → List ℕ
all_bytes [] = []
all_bytes (c ∷ cs) = chunk_bytes c ++ all_bytes cs

-- "Bytes 0 to 3 name the form: RIFF, RF64 or BW64. A 32-bit form size follows, then WAVE."
unfoldable pub file_bytes : Form → ℕ → List Chunk → List ℕ
file_bytes form field cs = bytes 4 (name_of form) ++ (bytes 4 field ++ (bytes 4 WAVE ++ all_bytes cs))

-- ds64's "entries of 12 bytes: a name and a 64-bit size"
unfoldable pub entries_bytes : List Ds64Entry → List ℕ
entries_bytes [] = []
entries_bytes (k ∷ ks) = bytes 4 k.name ++ (bytes 8 k.size ++ entries_bytes ks)

-- "form size (64 bits), data size (64 bits), a third 64-bit number, the entry count (32 bits), then entries"
unfoldable pub ds64_bytes : Ds64 → List Ds64Entry → List ℕ
ds64_bytes d ks =
    bytes 8 d.form_size
    ++ (bytes 8 d.data_size ++ (bytes 8 d.third ++ (bytes 4 d.count ++ entries_bytes ks)))

-- ---- the table

-- the true size of a chunk, and where it comes from
abbrev pub size_of : Chunk → TrueSize
size_of c = record { bytes = length c.payload; source = c.source }

-- "name, payload place and true size" of a chunk whose header stands at an offset, and where the size comes from
unfoldable pub row_at : ℕ → Chunk → Entry
row_at at c = entry_of (at + 8) c.name (size_of c)

-- "of each chunk, in file order", the first header being at an offset
unfoldable pub rows_at : ℕ → List Chunk → List Entry
rows_at at [] = []
rows_at at (c ∷ cs) = row_at at c ∷ rows_at (at + length (chunk_bytes c)) cs

-- ---- ds64

-- none of these chunks has the name
unfoldable pub Without : ℕ → List Chunk → Type 0
Without name cs = (c : Chunk) → Memᴰ c cs → c.name ≡ name → ⊥

-- "RF64 and BW64 must have ds64 as first chunk": the chunks start with one that holds these numbers and entries
pub record Ds64First (d : Ds64) (ks : List Ds64Entry) (cs : List Chunk) : Type 0 where
  pub first : Chunk
  pub later : List Chunk
  pub is : cs ≡ first ∷ later
  pub named : first.name ≡ DS64
  -- "A ds64 anywhere else .. is refused."
  pub once : Without DS64 later
  -- "Its own size field is never all ones"
  pub sized : first.field ≡ ONES → ⊥
  -- "The payload is at least 28 + 12 x count bytes": past the entries anything may stand
  pub more : List ℕ
  pub payload : first.payload ≡ ds64_bytes d ks ++ more
  -- "count is at most 16"
  pub counts : d.count ≡ length ks
  pub few : d.count ≤ ENTRIES
  -- names of 4 bytes, numbers of 64 bits
  pub fits : (d.form_size < 256 ^ 8) × (d.data_size < 256 ^ 8) × (d.third < 256 ^ 8)
  pub entries_fit : (k : Ds64Entry) → Memᴰ k ks → (k.name < 256 ^ 4) × (k.size < 256 ^ 8)

-- ---- a chunk

-- a chunk of a form whose ds64 holds these numbers and entries
pub record GoodChunk (form : Form) (d : Ds64) (ks : List Ds64Entry) (c : Chunk) : Type 0 where
  -- "a 4-byte name, a 32-bit size field"
  pub name_fits : c.name < 256 ^ 4
  pub field_fits : c.field < 256 ^ 4
  -- "one pad byte if the payload is odd"; it "may hold anything when read"
  pub padded : length c.pad ≡ length c.payload % 2
  -- its size and the size's source are what its field and ds64 tell (truesize/specs/Told)
  pub sized : Told form d ks c.name c.field (size_of c)
  -- "fact holds at least 4 bytes"
  pub fact : c.name ≡ FACT → 4 ≤ length c.payload

-- ---- the file

-- These bytes have the shape of a file, of this form, with this ds64 and table; what its format is doesn't matter:
pub record GoodShape (s : List ℕ) (l : Listing) : Type 0 where
  -- the form's header, then its chunks; "nothing may trail"
  pub field : ℕ
  pub chunks : List Chunk
  pub is : s ≡ file_bytes l.head.form field chunks
  -- "True form size S must make 8 + S equal L": S is the field, and "In the 64-bit forms an all-ones form field means the
  -- ds64 form size". L is at least 12, so that S is "at least 4".
  pub fits : field < 256 ^ 4
  pub own : (field ≡ ONES → ⊥) → 8 + field ≡ length s
  pub ones : field ≡ ONES → (is_wide l.head.form ≡ true) × (8 + l.head.ds64.form_size ≡ length s)
  -- "RF64 and BW64 must have ds64 as first chunk"; a ds64 "in RIFF, is refused", so that there its numbers are zeros
  pub entries : List Ds64Entry
  pub wide : is_wide l.head.form ≡ true → Ds64First l.head.ds64 entries chunks
  pub riff : is_wide l.head.form ≡ false → (l.head.ds64 ≡ no_ds64) × (entries ≡ []) × Without DS64 chunks
  -- each chunk is good, and "a 65th header" is refused
  pub good : (c : Chunk) → Memᴰ c chunks → GoodChunk l.head.form l.head.ds64 entries c
  pub most : length chunks ≤ LIMIT
  -- "The scan's table has name, payload place and true size of each chunk, in file order"; "Every table entry should say"
  -- where its size came from.
  pub rows : l.rows ≡ rows_at 12 chunks
  -- "exactly one fmt and one data, fmt first, and at most one each of bext, chna and fact"
  pub one_fmt : count FMT l.rows ≡ 1
  pub one_data : count DATA l.rows ≡ 1
  pub fmt_first : (find FMT l.rows).place < (find DATA l.rows).place
  pub bext : count BEXT l.rows ≤ 1
  pub chna : count CHNA l.rows ≤ 1
  pub fact : count FACT l.rows ≤ 1

-- These bytes are a good file, of this form, with this ds64, table and format:
pub record GoodFile (s : List ℕ) (a : Scan) : Type 0 where
  -- the form's header, then its chunks; "nothing may trail"
  pub field : ℕ
  pub chunks : List Chunk
  pub is : s ≡ file_bytes a.head.form field chunks
  -- "True form size S must make 8 + S equal L": S is the field, and "In the 64-bit forms an all-ones form field means the
  -- ds64 form size". L is at least 12, so that S is "at least 4".
  pub fits : field < 256 ^ 4
  pub own : (field ≡ ONES → ⊥) → 8 + field ≡ length s
  pub ones : field ≡ ONES → (is_wide a.head.form ≡ true) × (8 + a.head.ds64.form_size ≡ length s)
  -- "RF64 and BW64 must have ds64 as first chunk"; a ds64 "in RIFF, is refused", so that there its numbers are zeros
  pub entries : List Ds64Entry
  pub wide : is_wide a.head.form ≡ true → Ds64First a.head.ds64 entries chunks
  pub riff : is_wide a.head.form ≡ false → (a.head.ds64 ≡ no_ds64) × (entries ≡ []) × Without DS64 chunks
  -- each chunk is good, and "a 65th header" is refused
  pub good : (c : Chunk) → Memᴰ c chunks → GoodChunk a.head.form a.head.ds64 entries c
  pub most : length chunks ≤ LIMIT
  -- "The scan's table has name, payload place and true size of each chunk, in file order"; "Every table entry should say"
  -- where its size came from.
  pub rows : a.rows ≡ rows_at 12 chunks
  -- "exactly one fmt and one data, fmt first, and at most one each of bext, chna and fact"
  pub one_fmt : count FMT a.rows ≡ 1
  pub one_data : count DATA a.rows ≡ 1
  pub fmt_first : (find FMT a.rows).place < (find DATA a.rows).place
  pub bext : count BEXT a.rows ≤ 1
  pub chna : count CHNA a.rows ≤ 1
  pub fact : count FACT a.rows ≤ 1
  -- the format is the record in fmt's payload; "The data size is a whole number of blocks."
  pub format : (c : Chunk) → Memᴰ c chunks → c.name ≡ FMT → format_in c.payload ≡ Ok a.format
  pub blocks : (c : Chunk) → Memᴰ c chunks → c.name ≡ DATA → length c.payload % a.format.block ≡ 0

-- The listing accepts exactly the files of such a shape, each with exactly its form, ds64 and table.
unfoldable pub ListsExactly : Type 0
ListsExactly = (s : List ℕ) → Bytes s → (l : Listing) → (listing s ≡ Ok l) ↔ GoodShape s l

-- The scan accepts exactly the good files, each with exactly its form, ds64, table and format.
unfoldable pub AcceptsExactly : Type 0
AcceptsExactly = (s : List ℕ) → Bytes s → (a : Scan) → (scan s ≡ Ok a) ↔ GoodFile s a
