-- `chunk::put_row` meets its contract: four stores, one after the other.
use Rattle.std.proofs.Common.{refl}
use native.Mathlib.Numerals.{towards_suc}
use Rattle.chunk.specs.Tables.{row_words}
use Rattle.chunk.proofs.put_row.Goals as goal

pub returns : goal.returns
unfolding row_words
returns c = simp (towards_suc, c.words-row.ensures) refl
