-- `chunk::steps::step32` meets its contract: every field but all ones is the size.
use Rattle.std.proofs.Common.{sym, ap, ap₂, ◌∙◌, ℕ, length}
use Rattle.chunk.specs.declared.TrueSize.{TrueSize}
use Rattle.chunk.specs.Walks.{entry_of, field_size}
use Rattle.chunk.specs.Code.{placed_in, found_as, step_on}
use Rattle.chunk.proofs.Laid.{own-ones, own-given}
use Rattle.chunk.proofs.steps.step32.Goals as goal

pub returns-then-h-eq-ONES : goal.returns-then-h-eq-ONES
unfolding step_on found_as
returns-then-h-eq-ONES c =
    sym (ap (found_as _ _ _) (own-ones _ _ _ (sym c.header-h.ensures.field ∙ c.if-h-eq-ONES.true)))

pub returns : goal.returns
unfolding step_on found_as
returns c =
    let h = c.header-h.ensures in
    c.found.ensures
    ∙ ap₂ (λ (n : ℕ) (t : TrueSize). placed_in (length c.args.file.now) (entry_of c.args.place n t)) h.name (c.own-size.ensures ∙ ap field_size h.field)
    ∙ sym (ap (found_as _ _ _) (own-given _ _ _ (λ z. c.if-h-eq-ONES.false (h.field ∙ z))))
