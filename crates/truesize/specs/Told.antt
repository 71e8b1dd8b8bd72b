-- What a true size is, and where it came from, in the words of documents 01 and 02: no rule here works one out. proofs/Told
-- proves that the scan's rule gives these sizes and no others.
use Rattle.std.specs.Prelude.{ℕ, ◌≡◌, true, ◌↔◌, length}
use mathlib.Core.List.{List, ◌∷◌, ◌++◌, Memᴰ}
use Rattle.chunk.specs.declared.TrueSize.{TrueSize}
use Rattle.chunk.specs.declared.Source.TheVariants.{Own, DataSize, EntryAt}
use Rattle.chunk.specs.Names.{DATA}
use Rattle.chunk.specs.Fields.{ONES}
use Rattle.form.specs.declared.Form.{Form}
use Rattle.form.specs.declared.Ds64.{Ds64}
use Rattle.form.specs.Forms.{is_wide}
use Rattle.truesize.specs.Sizes.{Ds64Entry}

-- "the first entry of that name" stands at this "position (from 0)" and has this size
pub record FirstEntry (name position size : ℕ) (ks : List Ds64Entry) : Type 0 where
  pub before : List Ds64Entry
  pub after : List Ds64Entry
  pub is : ks ≡ before ++ record { name = name; size = size } ∷ after
  pub at : length before ≡ position
  pub none : (k : Ds64Entry) → Memᴰ k before → k.name ≡ name → ⊥

-- of a chunk with this name and size field, in a form whose ds64 holds these numbers and entries
pub record Told (form : Form) (d : Ds64) (ks : List Ds64Entry) (name own : ℕ) (t : TrueSize) : Type 0 where
  -- "A size field that is not all ones is the true size", whatever ds64 says of it: "own field"
  pub plain : (own ≡ ONES → ⊥) → (own ≡ t.bytes) × (t.source ≡ Own)
  -- "In the 64-bit forms an all-ones" field means "on data, the ds64 data size; on another chunk, the first entry of that
  -- name": "ds64 data size, or the position (from 0) of the ds64 entry used"
  pub wide : own ≡ ONES → is_wide form ≡ true
  pub audio : own ≡ ONES → name ≡ DATA → (t.bytes ≡ d.data_size) × (t.source ≡ DataSize)
  pub other : own ≡ ONES → (name ≡ DATA → ⊥) → (p : ℕ) × (t.source ≡ EntryAt p) × FirstEntry name p t.bytes ks

-- What the source then tells: "own field", exactly where that isn't all ones; "ds64 data size", exactly for data with an
-- all-ones field, and the size is ds64's; "or the position (from 0) of the ds64 entry used", where the first entry of the name
-- stands, and its size is this one.
pub record Marks (d : Ds64) (ks : List Ds64Entry) (name own : ℕ) (t : TrueSize) : Type 0 where
  pub plain : (t.source ≡ Own) ↔ (own ≡ ONES → ⊥)
  pub audio : (t.source ≡ DataSize) ↔ ((name ≡ DATA) × (own ≡ ONES))
  pub given : t.source ≡ DataSize → t.bytes ≡ d.data_size
  pub entry : (p : ℕ) → t.source ≡ EntryAt p → FirstEntry name p t.bytes ks
