-- `fmt::Format::rest_good` meets its contract: the tests are the definition's, over the numbers that were read.
use mathlib.Core.Path.{◌≡◌, ◌∙◌, sym, ap}
use mathlib.Core.Bool.{◌&&◌}
use mathlib.Core.List.{List}
use mathlib.Core.Logic.{⊎_elim}
use Prim.Native.Nat.{ℕ}
use native.Mathlib.Omega.{arith}
use lib.ListN.{length}
use lib.Dec.{eqb}
use Rattle.std.proofs.lemmas.Grind.{common_steps}
use Rattle.fmt.specs.declared.Format.{Format}
use Rattle.le.specs.Number.{number}
use Rattle.fmt.specs.Formats.{SUBFORMAT-LOW, SUBFORMAT-HIGH, record_in, valid_bits}
use Rattle.fmt.specs.Code.{Longer, rest_good}
use Rattle.fmt.proofs.Laws.{rest-18, rest-40}
use Rattle.fmt.proofs.Format.rest_good.Goals as goal

-- what is not 18 bytes long has 40
rest : (p : List ℕ) (f : Format) → Longer p f → (length p ≡ 18 → ⊥)
    → rest_good p f
    ≡ eqb (number 2 16 p) 22 && eqb (number 8 24 p) SUBFORMAT-LOW && eqb (number 8 32 p) SUBFORMAT-HIGH && valid_bits f.bits f.valid
unfolding record_in
rest p f l n =
    let e = ⊎_elim (λ e. absurd (n e)) (λ e. e) l.long in
    rest-40 p f e (ap (λ (x : Format). x.size) l.is ∙ e)

pub returns-then-payload-eq18 : goal.returns-then-payload-eq18
returns-then-payload-eq18 c =
    ap (λ (n : ℕ). eqb n 0) c.read.ensures.is
    ∙ rest-18 _ c.if-payload-eq18.true
    ∙ ap (rest_good _) (sym c.requires.is)

pub returns-then-read-eq-SUBFORMAT_HIGH : goal.returns-then-read-eq-SUBFORMAT_HIGH
returns-then-read-eq-SUBFORMAT_HIGH c =
    rw (rest c.args.payload.now c.args.self c.requires c.if-payload-eq18.false) (grind (arith, common_steps))

pub returns-else-read-eq-SUBFORMAT_HIGH : goal.returns-else-read-eq-SUBFORMAT_HIGH
returns-else-read-eq-SUBFORMAT_HIGH c =
    rw (rest c.args.payload.now c.args.self c.requires c.if-payload-eq18.false) (grind (arith, common_steps))
