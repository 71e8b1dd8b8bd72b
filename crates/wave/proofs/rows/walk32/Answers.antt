-- `wave::rows::walk32` meets its contract: the loop's invariant is a walk in the middle.
use mathlib.Core.Path.{◌≡◌, refl, sym, ◌∙◌}
use Prim.Native.Nat.{ℕ}
use Rattle.chunk.specs.declared.Entry.{Entry}
use Rattle.chunk.specs.declared.Step.{Step}
use Rattle.chunk.specs.declared.Step.TheVariants.{Chunk, Last, Cut, Stop}
use Rattle.chunk.specs.Walks.{Walked}
use Rattle.chunk.specs.Code.{walk_after, full}
use Rattle.wave.proofs.Stored.{storing-start, storing-next, storing-stop, storing-full}
use Rattle.wave.proofs.rows.walk32.Goals as goal

-- a step that is no chunk ends the walk, whatever would follow
no_chunk : (x : Step) → ((e : Entry) (to : ℕ) → x ≡ Chunk e to → ⊥) → (rest : ℕ → Walked) → walk_after x rest ≡ walk_after x full
unfolding walk_after
no_chunk (Chunk e to) k rest = absurd (k e to refl)
no_chunk (Last e) k rest = refl
no_chunk (Cut e) k rest = refl
no_chunk (Stop r) k rest = refl

pub loop-used-init : goal.loop-used-init
loop-used-init c =
    storing-start _ _ c.requires.0

pub returns-in_default : goal.returns-in_default
returns-in_default c =
    storing-stop _ _ _ _ _ _ _ _ c.loop-used.invariant c.requires.1 c.loop-used-test.true c.step32-found.ensures
    (no_chunk _ c.in_default.not-Chunk) c.finish.ensures

pub loop-used-preserved : goal.loop-used-preserved
loop-used-preserved c =
    storing-next _ _ _ _ _ _ _ _ c.loop-used.invariant c.loop-used-test.true (sym c.step32-found.ensures ∙ c.in-Chunk.is)
    c.put_row.ensures

pub returns : goal.returns
returns c =
    storing-full _ _ _ _ _ c.loop-used.invariant c.requires.1 c.loop-used-test.false
