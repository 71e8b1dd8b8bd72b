-- `fmt::Format::store_head` meets its contract: six stores, each where the one before it ends.
use mathlib.Core.Path.{◌≡◌, ◌∙◌, ap, sym}
use mathlib.Core.List.{List}
use Prim.Native.Nat.{ℕ}
use lib.Seq.{sets}
use Rattle.le.specs.Number.{stored}
use Rattle.le.proofs.Laws.{stored-then}
use Rattle.fmt.specs.declared.Format.{Format}
use Rattle.fmt.specs.Writing.{head_bytes}
use Rattle.fmt.proofs.Format.store_head.Goals as goal

laid : (f : Format) (s : List ℕ)
    → sets s 0 (head_bytes f)
    ≡ stored 2 14 f.bits
    (stored 2 12 f.block
    (stored 4 8 f.byterate (stored 4 4 f.rate (stored 2 2 f.channels (stored 2 0 f.tag s)))))
unfolding head_bytes stored
laid f s =
    stored-then 2 0 f.tag _ s
    ∙ stored-then 2 2 f.channels _ _
    ∙ stored-then 4 4 f.rate _ _
    ∙ stored-then 4 8 f.byterate _ _
    ∙ stored-then 2 12 f.block _ _

pub returns : goal.returns
returns c =
    let f = c.args.self in
    c.store-6.ensures
    ∙ ap (stored 2 14 f.bits)
    (c.store-5.ensures
    ∙ ap (stored 2 12 f.block)
    (c.store-4.ensures
    ∙ ap (stored 4 8 f.byterate)
    (c.store-3.ensures
    ∙ ap (stored 4 4 f.rate)
    (c.store-2.ensures ∙ ap (stored 2 2 f.channels) c.store.ensures))))
    ∙ sym (laid f _)
