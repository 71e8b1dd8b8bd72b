-- `listing::headers::walk` meets its contract. The loop's invariant: what the walk from the start tallies is what the walk
-- from here adds to the tally so far.
use Rattle.std.proofs.Common.{ℕ, ◌-◌, ◌+◌, Ok, sym, ap₂, ◌∙◌, arith}
use Rattle.le.specs.Number.{Bytes}
use Rattle.chunk.specs.Code.{walk_after}
use Rattle.chunk.specs.declared.Header.{Header}
use Rattle.chunk.specs.declared.Step.TheVariants.{Last, Cut, Stop}
use Rattle.chunk.specs.Tables.{LIMIT}
use Rattle.chunk.proofs.Turns.{header_is}
use Rattle.listing.specs.declared.tally.Tally.{Tally}
use Rattle.listing.specs.Code.{all_noted, tally_as}
use Rattle.listing.proofs.Passing.{begins, going_start, going-step, going-full, going-nears, going_next}
use Rattle.listing.proofs.headers.walk.Goals as goal

pub header-first-requires : goal.header-first-requires
header-first-requires c =
    let d = (begins _ _ c.requires).past.due in (d.start, d.whole)

pub near_end-near-requires : goal.near_end-near-requires
near_end-near-requires c =
    (begins _ _ c.requires).past.due.whole

pub loop-ahead-init : goal.loop-ahead-init
loop-ahead-init c =
    going_start _ _ _ _ _ c.requires c.near_end-near.ensures c.none-tally.ensures

pub pass-ahead-requires : goal.pass-ahead-requires
pass-ahead-requires c =
    going-nears _ _ _ _ _ _ _ _ _ c.loop-ahead.invariant _ _ _ c.step-found.ensures c.in-Chunk.is

pub loop-ahead-smaller : goal.loop-ahead-smaller
unfolding Bytes
loop-ahead-smaller c =
    let next = going_next _ _ _ _ _ _ _ _ _ c.loop-ahead.invariant _ _ _ _ _
    (λ n. omega (arith, c.type_inv.file n)) c.loop-ahead-test.true
    c.step-found.ensures c.in-Chunk.is c.note-tally.ensures c.pass-ahead.ensures in
    next.1

pub loop-ahead-preserved : goal.loop-ahead-preserved
unfolding Bytes
loop-ahead-preserved c =
    let next = going_next _ _ _ _ _ _ _ _ _ c.loop-ahead.invariant _ _ _ _ _
    (λ n. omega (arith, c.type_inv.file n)) c.loop-ahead-test.true
    c.step-found.ensures c.in-Chunk.is c.note-tally.ensures c.pass-ahead.ensures in
    next.0

pub returns-in-Last : goal.returns-in-Last
unfolding tally_as walk_after all_noted
returns-in-Last c =
    let n : ℕ = LIMIT - c.loop-ahead.ahead.room + 1 in
    ap₂ (λ (t : Tally) (f : Header). Ok (record { tally = t; first = f; count = n })) c.note.ensures
    (header_is _ _ _ c.header-first.ensures)
    ∙ going-step _ _ _ _ _ _ _ _ _ c.loop-ahead.invariant (Last c.in-Last.entry) c.loop-ahead-test.true
    (sym c.in-Last.is ∙ c.step-found.ensures)

pub returns-in-Cut : goal.returns-in-Cut
unfolding tally_as walk_after
returns-in-Cut c =
    going-step _ _ _ _ _ _ _ _ _ c.loop-ahead.invariant (Cut c.in-Cut.field-0) c.loop-ahead-test.true
    (sym c.in-Cut.is ∙ c.step-found.ensures)

pub returns-in-Stop : goal.returns-in-Stop
unfolding tally_as walk_after
returns-in-Stop c =
    going-step _ _ _ _ _ _ _ _ _ c.loop-ahead.invariant (Stop c.in-Stop.r) c.loop-ahead-test.true
    (sym c.in-Stop.is ∙ c.step-found.ensures)

pub returns : goal.returns
returns c =
    going-full _ _ _ _ _ _ _ _ _ c.loop-ahead.invariant (omega (arith, c.loop-ahead-test.false))
