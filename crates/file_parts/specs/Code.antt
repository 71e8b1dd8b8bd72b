-- What only the code's contracts need.
use Rattle.std.specs.Prelude.{◌≡◌, ℕ, ◌+◌, ◌≤◌, List, ⊤, length}
use Rattle.std.specs.Fn.{Once, FnOnceReturnsAtMut}
use Rattle.std.proofs.lemmas.List.Edits.{sets}
use Rattle.chunk.specs.Refusals.{Ok}
use Rattle.chunk.specs.Writes.{fitting, output_of}
use Rattle.file_parts.specs.declared.Output.{Output}
use denote.Ref.{MutBor}

-- so many bytes more fit an output
abbrev pub HasRoom : ℕ → Output → Type 0
HasRoom n o = o.at + n ≤ length o.bytes.now

-- what a step that stores these bytes next leaves
pub record Puts (bs : List ℕ) (old new : Output) : Type 0 where
  pub leaves : new.bytes.now ≡ sets old.bytes.now old.at bs
  pub next : new.at ≡ old.at + length bs
  pub same_length : length new.bytes.now ≡ length old.bytes.now
  pub same_reference : new.bytes.ghost_name ≡ old.bytes.ghost_name

-- functions of a part of an output
abbrev pub Stores : Type 0 → Type 1
Stores F = Once F (MutBor (List ℕ) × Unit {0}) (⊤ × (MutBor (List ℕ) × Unit {0}))

-- one that stores these bytes at the start of a part that has room for them
pub record StoresBytes {F : Type 0} (g : Stores F) (f : F) (bs : List ℕ) : Type 0 where
  pub stores : (s t : List ℕ) → FnOnceReturnsAtMut g f s tt t → t ≡ output_of s (fitting s (Ok bs))

-- what is left where it is lent the next part, of so many bytes
abbrev pub PutsBy : {F : Type 0} → Stores F → F → ℕ → (old new : Output) → Type 0
PutsBy g f n old new = (bs : List ℕ) → length bs ≡ n → StoresBytes g f bs → Puts bs old new
