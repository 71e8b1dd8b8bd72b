-- The number in eight bytes, of which those past the first N are zero.
use Rattle.std.proofs.Common.{arith, ◌≡◌, ◌∙◌, ap, ℕ, ◌+◌, ◌-◌, take, drop, length}
use Rattle.le.specs.Number.{Bytes, field, number}
use Rattle.le.proofs.Laws.{field-length, number_bound}
use Rattle.le.proofs.Eight.{eight-read}
use Rattle.le.proofs.read.Goals as goal

pub returns : goal.returns
unfolding Bytes field
returns g c =
    let n = g.row.N in
    let at = c.args.at in
    let s = c.args.s.now in
    let k : at + n - at ≡ n = omega arith in
    let f = c.copy_from_slice.ensures.after ∙ ap (λ (m : ℕ). take m (drop at s)) k in
    let e : c.from_le_bytes.result ≡ number n at s =
    eight-read n at _ s _ (ap length f ∙ field-length n at s c.requires.inside) c.requires.narrow f c.from_le_bytes.ensures in
    record {
      is = omega (arith, e);
      below = omega (arith, e, number_bound n at s (λ i. omega (arith, c.type_inv.s i)));
    }
