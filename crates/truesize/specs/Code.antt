-- What the code alone needs: what is known of a file where a size is asked for.
use Rattle.std.specs.Prelude.{ℕ, ◌+◌, ◌*◌, ◌≤◌, ◌<◌, ◌≡◌, true, List, length}
use Rattle.le.specs.Number.{number}
use Rattle.chunk.specs.declared.TrueSize.{TrueSize}
use Rattle.chunk.specs.Refusals.{Ok}
use Rattle.chunk.specs.Code.{Due}
use Rattle.form.specs.declared.Head.{Head}
use Rattle.form.specs.Forms.{is_wide, ENTRIES, LEAST, ENTRY}
use Rattle.truesize.specs.Sizes.{entries_of, ones_size}

-- where the entry at a position stands, and its name
abbrev pub entry_place : ℕ → ℕ
entry_place i = 20 + LEAST + ENTRY * i

abbrev pub entry_name : List ℕ → ℕ → ℕ
entry_name s i = number 4 (entry_place i) s

-- no entry below a position has the name
pub record NoneBelow (s : List ℕ) (name n : ℕ) : Type 0 where
  pub none : (i : ℕ) → i < n → entry_name s i ≡ name → ⊥

-- each of the first n places lies in the file, but for those behind the first that has the name
pub record Reaches (s : List ℕ) (name n : ℕ) : Type 0 where
  pub inside : (i : ℕ) → i < n → NoneBelow s name i → entry_place i + ENTRY ≤ length s

-- a 64-bit form's entries lie in the file, and are no more than a ds64 may have
pub record EntriesFit (h : Head) (s : List ℕ) : Type 0 where
  pub inside : is_wide h.form ≡ true → 20 + LEAST + ENTRY * h.ds64.count ≤ length s
  pub few : is_wide h.form ≡ true → h.ds64.count ≤ ENTRIES

-- a header past ds64 stands ahead of a place
pub record Past (h : Head) (s : List ℕ) (place : ℕ) : Type 0 where
  pub fit : EntriesFit h s
  pub due : Due s place
  pub later : is_wide h.form ≡ true → 20 < place

-- ds64 gives a chunk of this name, whose field is all ones, its size
pub record Knows (h : Head) (s : List ℕ) (name : ℕ) : Type 0 where
  pub fit : EntriesFit h s
  pub size : TrueSize
  pub is : ones_size h.form h.ds64 (entries_of h s) name ≡ Ok size

pub record IsKnown (h : Head) (s : List ℕ) (name : ℕ) (size : TrueSize) : Type 0 where
  pub is : ones_size h.form h.ds64 (entries_of h s) name ≡ Ok size
