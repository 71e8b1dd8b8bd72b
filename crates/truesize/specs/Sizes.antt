-- Document 01, "Shape of a file": the true size of a chunk, as the scan knows it, and (document 02) where it came from.
use Rattle.std.specs.Prelude.{ℕ, zero, suc, ◌+◌, Bool, not, ◌&&◌, List, [], ◌∷◌, drop, eqb}
use Rattle.le.specs.Number.{number}
use Rattle.le.specs.Choice.{pick}
use Rattle.chunk.specs.declared.TrueSize.{TrueSize}
use Rattle.chunk.specs.declared.Source.TheVariants.{DataSize, EntryAt}
use Rattle.chunk.specs.declared.Refusal.TheVariants.{BadDs64, UnknownSize}
use Rattle.chunk.specs.Refusals.{Answer, Err, Ok, check}
use Rattle.chunk.specs.Names.{DS64, DATA}
use Rattle.chunk.specs.Fields.{ONES}
use Rattle.chunk.specs.Walks.{Rule, field_size}
use Rattle.form.specs.declared.Form.{Form}
use Rattle.form.specs.declared.Form.TheVariants.{Riff, Rf64, Bw64}
use Rattle.form.specs.declared.Ds64.{Ds64}
use Rattle.form.specs.declared.Head.{Head}
use Rattle.form.specs.Forms.{is_wide, LEAST, ENTRY}

-- an entry of ds64
pub record Ds64Entry : Type 0 where
  pub name : ℕ
  pub size : ℕ

-- the n entries that stand in these bytes, "a name and a 64-bit size" each
unfoldable pub entries_in : ℕ → List ℕ → List Ds64Entry
entries_in zero s = []
entries_in (suc n) s = record { name = number 4 0 s; size = number 8 4 s } ∷ entries_in n (drop ENTRY s)

-- the entries of a file's ds64, which stand past the least payload; none in RIFF
unfoldable pub entries_of : Head → List ℕ → List Ds64Entry
entries_of h s = entries_in h.ds64.count (drop (20 + LEAST) s)

-- the size that ds64 gives data, and the one that its entry at a position gives
abbrev pub data_size : Ds64 → TrueSize
data_size d = record { bytes = d.data_size; source = DataSize }

abbrev pub size_at : ℕ → ℕ → TrueSize
size_at position size = record { bytes = size; source = EntryAt position }

-- "the first entry of that name" among those from a position on, or 7
unfoldable pub entry_size : (position name : ℕ) → List Ds64Entry → Answer TrueSize
unfolding pick
entry_size p name [] = Err UnknownSize
entry_size p name (k ∷ ks) = pick (eqb k.name name) (Ok (size_at p k.size)) (entry_size (p + 1) name ks)

-- "on data, the ds64 data size; on another chunk, the first entry of that name", positions counted "from 0"
unfoldable pub known_size : Ds64 → List Ds64Entry → ℕ → Answer TrueSize
unfolding pick
known_size d ks name = pick (eqb name DATA) (Ok (data_size d)) (entry_size 0 name ks)

-- an all-ones field: 7 in RIFF, in the 64-bit forms what ds64 says
unfoldable pub ones_size : Form → Ds64 → List Ds64Entry → ℕ → Answer TrueSize
unfolding known_size
ones_size Riff d ks name = Err UnknownSize
ones_size Rf64 d ks name = known_size d ks name
ones_size Bw64 d ks name = known_size d ks name

-- "A ds64 anywhere else, or in RIFF": a header of that name which is not first in a 64-bit form
unfoldable pub stray_ds64 : Form → ℕ → ℕ → Bool
stray_ds64 form at name = eqb name DS64 && not (is_wide form && eqb at 12)

-- The scan's size rule: "A ds64 anywhere else, or in RIFF, is refused"; "A size field that is not all ones is the true
-- size"; else what the ds64 knows.
unfoldable pub true_size : Head → List Ds64Entry → Rule
unfolding check pick stray_ds64
true_size h ks at name own =
    check (not (stray_ds64 h.form at name)) BadDs64
    (pick (eqb own ONES) (ones_size h.form h.ds64 ks name) (Ok (field_size own)))
