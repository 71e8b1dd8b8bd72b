-- `chna::copy` meets its contract: the payload is copied, and then its pads zeroed where they stand.
use mathlib.Core.Path.{refl, sym, ap, ◌∙◌}
use mathlib.Core.List.{List, ◌++◌}
use Prim.Native.Nat.{ℕ}
use native.Mathlib.Omega.{arith}
use lib.ListN.{length, drop}
use Rattle.chna.proofs.Pads.{zeroed-front, copied-whole, copied-short}
use Rattle.chna.proofs.copy.Goals as goal

pub returns-then-out-n : goal.returns-then-out-n
returns-then-out-n c =
    sym (copied-short _ _ (omega arith))

pub returns : goal.returns
returns c =
    let p : List ℕ = c.args.payload.now in
    let out : List ℕ = c.args.out.now in
    zeroed-front (length p) p (drop (length p) out) _ _ refl
    (ap (λ (l : List ℕ). l ++ drop (length p) out) c.copy_from_slice.ensures.after) c.zero_pads.ensures
    ∙ sym (copied-whole p out (omega arith))
