-- The first N of eight bytes, set in their place.
use Rattle.std.proofs.Common.{arith, ◌∙◌, ap, take}
use Rattle.le.specs.Number.{stored}
use Rattle.le.proofs.Laws.{bytes-length, part-set}
use Rattle.le.proofs.Eight.{eight-stored}
use Rattle.le.proofs.store.Goals as goal

pub returns : goal.returns
unfolding stored
returns g c =
    let n = g.row.N in
    part-set _ _ _ _ _
    (c.copy_from_slice.ensures.after ∙ ap (take n) c.to_le_bytes.ensures ∙ eight-stored n c.args.v c.requires.narrow)
    (omega (arith, bytes-length n c.args.v))
    (omega arith)
