-- `file::file_size` meets its contract: the sum of its parts, which fits.
use native.Mathlib.Omega.{arith}
use Rattle.file_parts.specs.Parts.{chunk_size}
use Rattle.file.specs.Code.{file_size}
use Rattle.file_parts.proofs.Lengths.{size-most}
use Rattle.file.proofs.file_size.Goals as goal

pub overflow_add-result : goal.overflow_add-result
overflow_add-result c =
    omega (arith, c.optional_size.ensures, size-most c.args.bext, c.requires.0)

pub overflow_add-result-2 : goal.overflow_add-result-2
overflow_add-result-2 c =
    omega (arith, c.optional_size-2.ensures, c.optional_size.ensures, size-most c.args.bext, size-most c.args.chna, c.requires.0, c.requires.1.0)

pub overflow_add-result-3 : goal.overflow_add-result-3
unfolding chunk_size
overflow_add-result-3 c =
    omega (arith, c.chunk_size.ensures, c.optional_size-2.ensures, c.optional_size.ensures, size-most c.args.bext, size-most c.args.chna, c.requires.0, c.requires.1.0, c.requires.1.1)

pub returns : goal.returns
unfolding file_size
returns c =
    omega (arith, c.chunk_size.ensures, c.optional_size-2.ensures, c.optional_size.ensures)
