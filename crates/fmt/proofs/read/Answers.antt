-- `fmt::read` meets its contract: a short payload goes with no tag, and another is judged rule by rule.
use mathlib.Core.Path.{◌≡◌, ◌∙◌, sym, ap}
use mathlib.Core.Bool.{true}
use mathlib.Core.List.{List}
use mathlib.Core.Logic.{◌⊎◌, inl, inr, ⊎_elim}
use Prim.Native.Nat.{ℕ}
use native.Mathlib.Omega.{arith}
use lib.ListN.{length}
use Rattle.std.proofs.lemmas.Grind.{common_steps}
use Rattle.le.specs.Choice.{pick}
use Rattle.chunk.specs.Refusals.{check}
use Rattle.fmt.specs.declared.Format.{Format}
use Rattle.fmt.specs.Formats.{record_in, size_good}
use Rattle.fmt.proofs.Laws.{size-cases, short, by_rules}
use Rattle.fmt.proofs.read.Goals as goal

longer : (p : List ℕ) {f : Format} → f ≡ record_in p → size_good f.tag f.size ≡ true → (f.size ≡ 16 → ⊥)
    → (length p ≡ 18) ⊎ (length p ≡ 40)
unfolding record_in
longer p {f} e g n =
    let same : f.size ≡ length p = ap (λ (x : Format). x.size) e in
    ⊎_elim (λ x. absurd (n x)) (⊎_elim (λ x. inl (sym same ∙ x)) (λ x. inr (sym same ∙ x))) (size-cases f.tag f.size g)

pub returns-then-payload-lt16 : goal.returns-then-payload-lt16
returns-then-payload-lt16 c = sym (short _ c.if-payload-lt16.true)

pub rest_good-requires : goal.rest_good-requires
rest_good-requires c =
    let is = c.of-format.ensures.is in
    record { is = is; long = longer _ is (sym c.size_good.ensures ∙ c.if-size_good.true) c.if-format-eq16.false }

pub returns-then-rest_good : goal.returns-then-rest_good
unfolding check pick
returns-then-rest_good c =
    rw (by_rules c.args.payload.now c.of-format.result c.of-format.ensures.is) (grind (arith, common_steps))

pub returns-else-size_good : goal.returns-else-size_good
unfolding check pick
returns-else-size_good c =
    rw (by_rules c.args.payload.now c.of-format.result c.of-format.ensures.is) (grind (arith, common_steps))
