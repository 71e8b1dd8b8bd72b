-- `file::optional_size` meets its contract: by whether there is a payload.
use mathlib.Core.Path.{sym, ◌∙◌}
use Rattle.file_parts.proofs.Lengths.{size_none, size-some}
use Rattle.file.proofs.optional_size.Goals as goal

pub returns-then-n-eq0 : goal.returns-then-n-eq0
returns-then-n-eq0 c =
    sym (size_none _ c.if-n-eq0.true)

pub returns-else-n-eq0 : goal.returns-else-n-eq0
returns-else-n-eq0 c =
    c.chunk_size.ensures ∙ sym (size-some _ c.if-n-eq0.false)
