-- `file::chunk_size` meets its contract: the sum fits.
use mathlib.Core.Path.{refl}
use Rattle.file_parts.specs.Parts.{chunk_size}
use Rattle.file.proofs.chunk_size.Goals as goal

pub returns : goal.returns
unfolding chunk_size
returns c =
    refl
