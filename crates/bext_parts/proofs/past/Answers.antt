-- `bext_parts::past` meets its contract: each block that is passed is all of the run, and in the one that is not it ends.
use mathlib.Core.Path.{◌≡◌, sym, ◌∙◌}
use native.Mathlib.Nat.{mul_comm}
use Prim.Native.Nat.{ℕ, ◌*◌, ◌/◌}
use native.Mathlib.Omega.{arith}
use lib.ListN.{length}
use Rattle.bext_parts.proofs.Runs.{run_short, block-fits, block-passed, block-ends, past-at}
use Rattle.bext_parts.proofs.past.Goals as goal

pub loop-i-preserved : goal.loop-i-preserved
loop-i-preserved g c =
    let fits = block-fits g.row.N c.loop-i.i (length c.args.s.now) c.requires.0 c.loop-i-test.true in
    let kept = block-passed c.args.zeros c.args.s.now (g.row.N * c.loop-i.i) g.row.N _ (omega arith) c.loop-i.invariant fits
    (sym c.ends_in.ensures ∙ c.if-ends_in.false) in
    grind (arith, kept)

pub returns-then-ends_in : goal.returns-then-ends_in
returns-then-ends_in g c =
    let fits = block-fits g.row.N c.loop-i.i (length c.args.s.now) c.requires.0 c.loop-i-test.true in
    past-at c.args.zeros c.args.s.now g.row.N (g.row.N * c.loop-i.i) c.loop-i.invariant
    (block-ends c.args.zeros c.args.s.now (g.row.N * c.loop-i.i) g.row.N _ (omega arith) c.loop-i.invariant fits
    (sym c.ends_in.ensures ∙ c.if-ends_in.true))

pub returns : goal.returns
returns g c =
    let n : ℕ = length c.args.s.now / g.row.N in
    let all : c.loop-i.i ≡ n = omega arith in
    let same : n * g.row.N ≡ g.row.N * n = mul_comm n g.row.N in
    past-at c.args.zeros c.args.s.now g.row.N (n * g.row.N) (rw (same, ← all) c.loop-i.invariant)
    (omega (arith, same, run_short c.args.zeros c.args.s.now))
