-- `truesize::ones_size` meets its contract: RIFF knows no size, the 64-bit forms ask ds64, and the name picks the case.
use mathlib.Core.Path.{◌∙◌, ap, sym}
use Rattle.chunk.specs.Refusals.{Ok}
use Rattle.truesize.specs.Sizes.{entries_of}
use Rattle.truesize.proofs.Sizes.{ones-riff, ones-wide, known-data, known-other}
use Rattle.truesize.proofs.ones_size.Goals as goal

pub returns-then-not-is_wide : goal.returns-then-not-is_wide
returns-then-not-is_wide c =
    sym (ones-riff _ _ _ _ (sym c.is_wide.ensures ∙ c.if-not-is_wide.true))

pub returns-then-name-eq-DATA : goal.returns-then-name-eq-DATA
returns-then-name-eq-DATA c =
    ap Ok c.data_size.ensures
    ∙ sym (ones-wide _ _ _ _ (sym c.is_wide.ensures ∙ c.if-not-is_wide.false) ∙ known-data _ _ _ c.if-name-eq-DATA.true)

pub returns : goal.returns
unfolding entries_of
returns c =
    c.entry_size.ensures
    ∙ sym (ones-wide _ _ _ _ (sym c.is_wide.ensures ∙ c.if-not-is_wide.false) ∙ known-other _ _ _ c.if-name-eq-DATA.false)
