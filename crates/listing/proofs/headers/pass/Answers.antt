-- `listing::headers::pass` meets its contract. The loop's invariant: what the definition passes from here is what it passes
-- from the start.
use mathlib.Core.Path.{◌≡◌, refl, sym, ap, ◌∙◌, subst}
use Prim.Native.Nat.{ℕ, ◌+◌, ◌-◌, ◌%◌, ◌≤◌}
use native.Mathlib.Omega.{arith}
use Rattle.std.proofs.lemmas.Grind.{common_steps}
use lib.ListN.{get_or}
use Rattle.listing.specs.Code.{next_of, passed_from, Nears}
use Rattle.listing.proofs.Passing.{Passes, pass-letter, pass-end, pass-true, next-due, passed-stay, passed_on, passed_none}
use Rattle.listing.proofs.headers.pass.Goals as goal

pub loop-room-init : goal.loop-room-init
loop-room-init c =
    (c.requires, refl)

pub overflow_sub-letter : goal.overflow_sub-letter
overflow_sub-letter c =
    omega (arith, c.loop-room.invariant.0.due.start)

pub bounds-file-i : goal.bounds-file-i
bounds-file-i c =
    omega (arith, c.loop-room.invariant.0.due.start, c.loop-room.invariant.0.due.whole)

pub returns-then-contains : goal.returns-then-contains
returns-then-contains c =
    let lo : 98 ≤ get_or c.args.file.now (c.loop-room.place - 8) 0 = grind (arith, common_steps) in
    let hi : get_or c.args.file.now (c.loop-room.place - 8) 0 ≤ 102 = grind (arith, common_steps) in
    sym (passed-stay _ _ _ _ (pass-letter _ _ _ lo hi))
    ∙ c.loop-room.invariant.1

pub overflow_sub-i : goal.overflow_sub-i
overflow_sub-i c =
    omega (arith, c.loop-room.invariant.0.due.start)

pub read-requires-clause-inside : goal.read-requires-clause-inside
read-requires-clause-inside c =
    omega (arith, c.loop-room.invariant.0.due.start, c.loop-room.invariant.0.due.whole)

pub past-next-requires : goal.past-next-requires
past-next-requires c =
    let d = c.loop-room.invariant.0.due in
    (d.even, omega (arith, d.whole, c.read.ensures.below))

pub returns-then-near-next : goal.returns-then-near-next
unfolding next_of
returns-then-near-next c =
    let letter : 98 ≤ get_or c.args.file.now (c.loop-room.place - 8) 0 → get_or c.args.file.now (c.loop-room.place - 8) 0 ≤ 102 → ⊥ = λ h k.
    grind (arith, common_steps) in
    let next : c.past-next.result ≡ next_of c.loop-room.place c.args.file.now = c.past-next.ensures ∙ ap (λ (n : ℕ). c.loop-room.place + n + n % 2 + 8) c.read.ensures.is in
    sym (passed-stay _ _ _ _ (pass-end _ _ _ letter (omega (arith, next, c.if-near-next.true))))
    ∙ c.loop-room.invariant.1

pub overflow_sub-room : goal.overflow_sub-room
overflow_sub-room c =
    omega arith

pub loop-room-smaller : goal.loop-room-smaller
loop-room-smaller c =
    omega arith

pub loop-room-preserved : goal.loop-room-preserved
unfolding next_of
loop-room-preserved c =
    let letter : 98 ≤ get_or c.args.file.now (c.loop-room.place - 8) 0 → get_or c.args.file.now (c.loop-room.place - 8) 0 ≤ 102 → ⊥ = λ h k.
    grind (arith, common_steps) in
    let next : c.past-next.result ≡ next_of c.loop-room.place c.args.file.now = c.past-next.ensures ∙ ap (λ (n : ℕ). c.loop-room.place + n + n % 2 + 8) c.read.ensures.is in
    let i = c.loop-room.invariant in
    let near = c.args.near in
    let p : Passes near c.loop-room.place c.args.file.now = record { letter = letter; inside = omega (arith, next, c.if-near-next.false) } in (
      subst (Nears c.args.file.now near) (sym next) (next-due _ _ _ i.0 p),
      ap (passed_from c.args.file.now near _) next
          ∙ sym (passed_on _ _ _ _ c.loop-room-test.true (pass-true _ _ _ p))
          ∙ i.1,
    )

pub returns : goal.returns
returns c =
    sym (passed_none _ _ _ _ (omega (arith, c.loop-room-test.false))) ∙ c.loop-room.invariant.1
