-- `bext::parts::put_text` meets its contract: the text stands over the start of zeros.
use Rattle.std.proofs.Common.{arith, ◌≡◌}
use lib.Seq.{take-length}
use Rattle.bext.proofs.Stores.{zeros-then-text}
use Rattle.bext.proofs.parts.put_text.Goals as goal

pub returns : goal.returns
returns c =
    let whole : c.copy_from_slice.new.self ≡ c.args.t.now = grind (arith, c.copy_from_slice.ensures.after, take-length c.args.t.now) in
    zeros-then-text _ c.args.t.now c.copy_from_slice.new.self c.fill.new.self whole (c.fill.ensures.after (λ y e. e))
