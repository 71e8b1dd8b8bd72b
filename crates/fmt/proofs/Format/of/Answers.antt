-- `fmt::Format::of` meets its contract: each field is the number that was read at its place.
use mathlib.Core.Path.{◌≡◌, ◌∙◌, refl, ap}
use Prim.Native.Nat.{ℕ}
use Rattle.fmt.proofs.Laws.{of40, gathered, present, absent}
use Rattle.fmt.proofs.Format.of.Goals as goal
use Rattle.fmt.proofs.Format.of.Goals.{then-payload-eq40, else-payload-eq40}

pub returns : goal.returns
returns c =
    let met = c.if-payload-eq40 in
    let p = c.args.payload.now in
    let tail : (met.valid.0 ≡ of40 p 2 18) × (met.valid.1 ≡ of40 p 4 20) =
    elim met.branch [
      | then-payload-eq40 w ↦ (present p 2 18 w.if-payload-eq40.true (ap (λ (t : ℕ × ℕ). t.0) w.valid-is ∙ w.read.ensures.is), present p 4 20 w.if-payload-eq40.true (ap (λ (t : ℕ × ℕ). t.1) w.valid-is ∙ w.read-then-payload-eq40.ensures.is))
      | else-payload-eq40 w ↦ (absent p 2 18 w.if-payload-eq40.false (ap (λ (t : ℕ × ℕ). t.0) w.valid-is), absent p 4 20 w.if-payload-eq40.false (ap (λ (t : ℕ × ℕ). t.1) w.valid-is))
    ] in
    record {
      is =
          gathered p _ refl
          c.read-2.ensures.is
          c.read-3.ensures.is
          c.read-4.ensures.is
          c.read-5.ensures.is
          c.read-6.ensures.is
          c.read-7.ensures.is
          tail.0
          tail.1;
      channels_fit = c.read-3.ensures.below;
    }
