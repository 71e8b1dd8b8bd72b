-- `bext::write` meets its contract: the record could not have been read, or the output is too short, or the payload is at
-- its start.
use Rattle.std.proofs.Common.{◌∙◌, ap, sym, arith, ◌++◌, drop}
use Rattle.chunk.proofs.Outputs.{puts-front, refuses, lacks-room, writes}
use Rattle.bext.specs.Writing.{asked, asked_of, laid}
use Rattle.bext.proofs.Stores.{laid-length}
use Rattle.bext.proofs.Outs.{writable_fits, out-refused, out-given}
use Rattle.bext.proofs.write.Goals as goal

pub returns-then-not-is_writable : goal.returns-then-not-is_writable
returns-then-not-is_writable c =
    refuses _ _ _ (out-refused _ (sym c.is_writable.ensures ∙ c.if-not-is_writable.true))

pub returns-then-out-size : goal.returns-then-out-size
unfolding asked
returns-then-out-size c =
    let kept = sym c.is_writable.ensures ∙ c.if-not-is_writable.false in
    lacks-room _ _ _ (out-given _ kept) (omega (arith, laid-length _ (writable_fits _ kept), c.if-out-size.true))

pub store-requires : goal.store-requires
store-requires c =
    (writable_fits _ (sym c.is_writable.ensures ∙ c.if-not-is_writable.false), c.if-out-size.false)

pub returns : goal.returns
unfolding asked
returns c =
    let kept = sym c.is_writable.ensures ∙ c.if-not-is_writable.false in
    let bytes = laid (asked_of c.args.parts) in
    let size = laid-length _ (writable_fits _ kept) in
    let room = c.if-out-size.false in
    writes _ _ _ (out-given _ kept) _ _ (sym size) room
    (c.store.ensures ∙ puts-front c.args.out.now bytes (omega (arith, size, room)) ∙ ap (λ n. bytes ++ drop n c.args.out.now) size)
