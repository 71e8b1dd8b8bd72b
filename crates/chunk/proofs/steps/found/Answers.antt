-- `chunk::steps::found` meets its contract: one test tells whether a whole header follows.
use Rattle.std.proofs.Common.{sym, ap₂, ◌∙◌, arith}
use Rattle.chunk.specs.declared.Step.TheVariants as code
use Rattle.chunk.specs.Walks.{past}
use Rattle.chunk.specs.Code.{ends_at}
use Rattle.chunk.proofs.Turns.{placed-whole, placed-ends}
use Rattle.chunk.proofs.steps.found.Goals as goal

pub returns-then-len-next : goal.returns-then-len-next
unfolding past
returns-then-len-next c =
    let p = c.past-next.ensures in
    c.ends.ensures
    ∙ ap₂ (ends_at _) (omega (arith, p)) c.entry-e.ensures
    ∙ sym (placed-ends _ _ (omega (arith, p, c.if-len-next.true)))

pub returns : goal.returns
unfolding past
returns c =
    let p = c.past-next.ensures in
    ap₂ code.Chunk c.entry-e.ensures p ∙ sym (placed-whole _ _ (omega (arith, p, c.if-len-next.false)))
