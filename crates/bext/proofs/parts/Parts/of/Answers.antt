-- `bext::Parts::of` meets its contract: the payload is too short, or each part is the record's.
use mathlib.Core.Path.{sym}
use native.Mathlib.Omega.{arith}
use lib.ListN.{length}
use lib.Seq.{length-take-le}
use borrow.Author.Tests.{le-leb}
use Rattle.le.specs.Choice.{pick}
use Rattle.le.specs.Number.{field}
use Rattle.bext.specs.Records.{whole_in}
use Rattle.bext.specs.Slices.{parts_in, whole_of}
use Rattle.bext.proofs.Answers.{to_the_end}
use Rattle.bext.proofs.parts.Parts.of.Goals as goal

pub slice_bounds-text-end : goal.slice_bounds-text-end
slice_bounds-text-end c = sym (length-take-le 256 c.args.payload.now (omega arith))

pub returns : goal.returns
unfolding whole_of parts_in whole_in pick field
returns c =
    rw (
      le-leb 602 (length c.args.payload.now) c.if-payload-lt-HISTORY.false,
      c.text.ensures,
      c.text-2.ensures,
      c.text-3.ensures,
      c.stamp.ensures,
      c.stamp-2.ensures,
      c.read.ensures.is,
      c.read-2.ensures.is,
      to_the_end 602 c.args.payload.now,
    )
