-- `truesize::first_size` meets its contract: in each turn of the loop no entry that was passed has the name.
use mathlib.Core.Path.{sym, ◌∙◌, ap}
use Prim.Native.Nat.{◌≤◌}
use native.Mathlib.Omega.{arith}
use Rattle.chunk.specs.Refusals.{Ok}
use Rattle.truesize.proofs.Search.{search-here, search-none, none-less}
use Rattle.truesize.proofs.first_size.Goals as goal

pub returns-then-count-i : goal.returns-then-count-i
returns-then-count-i c =
    record {
      is = sym (search-none _ c.loop-i.invariant c.if-count-i.true);
      none = none-less _ c.loop-i.invariant c.if-count-i.true;
    }

pub returns-then-read-name-clause-is : goal.returns-then-read-name-clause-is
returns-then-read-name-clause-is c =
    let here = rw c.place.ensures at c.read.ensures.is in
    ap Ok c.size_at.ensures ∙ sym (search-here _ c.loop-i.invariant c.if-count-i.false (sym here ∙ c.if-read-name.true))

pub returns : goal.returns
returns c =
    let l = c.loop-i.invariant in
    let h : c.args.count ≤ c.loop-i.i = omega (arith, c.requires.all, c.loop-i-test.false) in
    record { is = sym (search-none _ l h); none = none-less _ l h }
