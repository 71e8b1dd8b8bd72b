-- Document 02, request (iii): where a chunk's true size came from.
use Rattle.std.specs.Prelude.{ℕ, ◌+◌, ◌-◌, eqb}
use Rattle.le.specs.Choice.{pick}
use Rattle.chunk.specs.declared.Source.{Source}
use Rattle.chunk.specs.declared.Source.TheVariants.{Own, DataSize, EntryAt}

-- "own field, ds64 data size, or the position (from 0) of the ds64 entry used", each as a number
abbrev pub source_number : Source → ℕ
source_number Own = 0
source_number DataSize = 1
source_number (EntryAt position) = 2 + position

-- the source that has a number
unfoldable pub source_of : ℕ → Source
unfolding pick
source_of n = pick (eqb n 0) Own (pick (eqb n 1) DataSize (EntryAt (n - 2)))
