-- `fmt::Format::store_extra` meets its contract: 18 bytes have one number more, 40 five, each stored where the one before it ends.
use mathlib.Core.Path.{◌≡◌, ◌∙◌, ap, sym}
use mathlib.Core.List.{List}
use Prim.Native.Nat.{ℕ}
use native.Mathlib.Omega.{arith}
use lib.Seq.{sets}
use Rattle.le.specs.Number.{stored}
use Rattle.le.proofs.Laws.{stored-then}
use Rattle.fmt.specs.declared.Format.{Format}
use Rattle.fmt.specs.Formats.{SUBFORMAT-LOW, SUBFORMAT-HIGH}
use Rattle.fmt.specs.Writing.{extra_bytes}
use Rattle.fmt.proofs.Laws.{extra-16, extra-18, extra-40}
use Rattle.fmt.proofs.Format.store_extra.Goals as goal

laid : (f : Format) (s : List ℕ) → f.size ≡ 40
    → sets s 16 (extra_bytes f)
    ≡ stored 8 32 SUBFORMAT-HIGH
    (stored 8 24 SUBFORMAT-LOW (stored 4 20 f.mask (stored 2 18 f.valid (stored 2 16 22 s))))
unfolding stored
laid f s h =
    ap (sets s 16) (extra-40 f h)
    ∙ stored-then 2 16 22 _ s
    ∙ stored-then 2 18 f.valid _ _
    ∙ stored-then 4 20 f.mask _ _
    ∙ stored-then 8 24 SUBFORMAT-LOW _ _

pub returns-in-18 : goal.returns-in-18
unfolding stored
returns-in-18 c = c.store.ensures ∙ sym (ap (sets _ 16) (extra-18 _ c.in-18.is))

pub returns-in-40 : goal.returns-in-40
returns-in-40 c =
    let f = c.args.self in
    c.store-in-40-5.ensures
    ∙ ap (stored 8 32 SUBFORMAT-HIGH)
    (c.store-in-40-4.ensures
    ∙ ap (stored 8 24 SUBFORMAT-LOW)
    (c.store-in-40-3.ensures
    ∙ ap (stored 4 20 f.mask)
    (c.store-in-40-2.ensures ∙ ap (stored 2 18 f.valid) c.store-in-40.ensures)))
    ∙ sym (laid f _ c.in-40.is)

pub returns-in_default : goal.returns-in_default
returns-in_default c = sym (ap (sets _ 16) (extra-16 c.args.self (omega arith) (omega arith)))
