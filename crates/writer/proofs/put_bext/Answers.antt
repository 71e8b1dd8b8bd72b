-- `writer::put_bext` meets its contract: nothing, or a chunk.
use mathlib.Core.Path.{sym, ◌∙◌}
use native.Mathlib.Omega.{arith}
use lib.ListN.{length}
use borrow.Author.Tests.{eqb-true, eqb-false}
use Rattle.chunk.specs.Names.{BEXT}
use Rattle.file_parts.specs.Parts.{chunk_bytes}
use Rattle.file_parts.proofs.Lengths.{optional-none, optional-some, size-some}
use Rattle.file_parts.proofs.Stores.{puts-nothing, puts-as}
use Rattle.writer.proofs.put_bext.Goals as goal

pub put_chunk-requires : goal.put_chunk-requires
put_chunk-requires c =
    let some = eqb-false (length c.args.bext.now) 0 (sym c.is_empty.ensures ∙ c.if-not-is_empty.true) in
    omega (arith, size-some _ some)

pub returns-then-not-is_empty : goal.returns-then-not-is_empty
unfolding chunk_bytes
returns-then-not-is_empty c =
    let some = eqb-false (length c.args.bext.now) 0 (sym c.is_empty.ensures ∙ c.if-not-is_empty.true) in
    puts-as _ _ (optional-some BEXT _ some) c.put_chunk.ensures

pub returns-else-not-is_empty : goal.returns-else-not-is_empty
returns-else-not-is_empty c =
    puts-nothing _ _ (optional-none BEXT _ (eqb-true (length c.args.bext.now) 0 (sym c.is_empty.ensures ∙ c.if-not-is_empty.false)))
