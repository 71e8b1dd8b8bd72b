-- `records::chna_entry` meets its contract: the entry is not used, or it lies in the payload, so that its places don't wrap.
use mathlib.Core.Path.{refl, sym, ap, ◌∙◌}
use native.Mathlib.Omega.{arith}
use lib.Seq.{sets}
use Rattle.words.proofs.Answered.{same}
use Rattle.records.proofs.Values.{not-used, is-used, used-there}
use Rattle.records.proofs.chna_entry.Goals as goal

pub returns-in_default : goal.returns-in_default
returns-in_default c =
    same 5 _ _ _ _ _ _ _ refl
    (ap (sets c.args.words.now 0) (not-used _ _ (sym c.entry.ensures ∙ c.in_default.is)))
    c.zeros.ensures

pub overflow_mul-at : goal.overflow_mul-at
overflow_mul-at c = omega (arith, used-there c.args.i c.args.payload.now _ (sym c.entry.ensures ∙ c.in-Some.is))

pub overflow_add-at : goal.overflow_add-at
overflow_add-at c = omega (arith, used-there c.args.i c.args.payload.now _ (sym c.entry.ensures ∙ c.in-Some.is))

pub overflow_add-at-2 : goal.overflow_add-at-2
overflow_add-at-2 c = omega (arith, used-there c.args.i c.args.payload.now _ (sym c.entry.ensures ∙ c.in-Some.is))

pub overflow_add-at-3 : goal.overflow_add-at-3
overflow_add-at-3 c = omega (arith, used-there c.args.i c.args.payload.now _ (sym c.entry.ensures ∙ c.in-Some.is))

pub overflow_add-at-4 : goal.overflow_add-at-4
overflow_add-at-4 c = omega (arith, used-there c.args.i c.args.payload.now _ (sym c.entry.ensures ∙ c.in-Some.is))

pub returns : goal.returns
returns c =
    same 5 _ _ _ _ _ _ _ refl
    (ap (sets c.args.words.now 0) (is-used _ _ _ (sym c.entry.ensures ∙ c.in-Some.is)))
    c.answer.ensures
