-- `words::lend` meets its contract: the part that was lent is as the writer left it, and its answer is told.
use mathlib.Core.Path.{refl, sym}
use lib.Seq.{length-take-le}
use Rattle.words.proofs.Written.{part, wrote}
use Rattle.words.proofs.lend.Goals as goal

pub slice_bounds-write-end : goal.slice_bounds-write-end
slice_bounds-write-end g c = part c.args.out.now c.args.written.now _ c.room-end.ensures

pub slice_bounds-write-end-2 : goal.slice_bounds-write-end-2
slice_bounds-write-end-2 g c =
    sym (length-take-le _ _ (part c.args.out.now c.args.written.now _ c.room-end.ensures))

pub returns : goal.returns
returns g c a w =
    let met = w.writes _ _ _ (record { shown = _; shows = refl; left = _; met = c.write.ensures; leaves = refl }) in
    wrote a c.args.out.now c.args.written.now _ _ _ _ _ w.filled c.room-end.ensures met.answers met.leaves c.tell.ensures
