-- `file::judge` meets its contract: each exit is one outcome of the definition.
use mathlib.Core.Path.{◌≡◌, sym, ap, ap₂, ◌∙◌}
use mathlib.Core.Bool.{Bool, true, ◌||◌}
use Prim.Native.Nat.{ℕ, ◌-◌}
use native.Mathlib.Omega.{arith}
use lib.ListN.{length}
use lib.Dec.{leb}
use borrow.Author.Tests.{le-leb, lt-leb}
use Rattle.chunk.specs.Refusals.{Ok}
use Rattle.chunk.specs.Writes.{written_of}
use Rattle.chunk.proofs.Checks.{or-true}
use Rattle.form.specs.Forms.{is_wide}
use Rattle.file.specs.Code.{file_size}
use Rattle.file.proofs.Inputs.{good, chna-short}
use Rattle.file.proofs.Sizes.{file-length}
use Rattle.file.proofs.Outs.{bad-record, large-bext, large-form, whole}
use Rattle.file.proofs.judge.Goals as goal
use Rattle.file.proofs.judge.Goals.{else-not-is_wide-via-then-not-is_wide+else-size-gt-LARGEST, else-not-is_wide-via-else-not-is_wide}

pub returns-then-not-is_good : goal.returns-then-not-is_good
unfolding written_of
returns-then-not-is_good c =
    sym (ap written_of (bad-record _ _ _ _ _ (sym c.is_good.ensures ∙ c.if-not-is_good.true)))

pub returns-then-input-gt-LARGEST : goal.returns-then-input-gt-LARGEST
unfolding written_of
returns-then-input-gt-LARGEST c =
    sym (ap written_of (large-bext _ _ _ _ _ (sym c.is_good.ensures ∙ c.if-not-is_good.false) (omega arith)))

pub file_size-size-requires : goal.file_size-size-requires
file_size-size-requires c =
    let short = chna-short _ _ _ _ (good _ _ _ _ (sym c.is_good.ensures ∙ c.if-not-is_good.false)) in
    (omega arith, (omega arith, omega arith))

pub overflow_sub-size : goal.overflow_sub-size
unfolding file_size
overflow_sub-size c =
    omega (arith, c.file_size-size.ensures)

pub returns-then-size-gt-LARGEST : goal.returns-then-size-gt-LARGEST
unfolding written_of
returns-then-size-gt-LARGEST c =
    let over = ap₂ (λ (x y : Bool). x || y) (sym c.is_wide.ensures ∙ c.if-not-is_wide.true)
    (lt-leb (file_size (length c.args.input.bext.now) (length c.args.input.chna.now) (length c.args.input.audio.now) - 8) 4294967294 (omega (arith, c.file_size-size.ensures))) in
    sym (ap written_of (large-form _ _ _ _ _ (sym c.is_good.ensures ∙ c.if-not-is_good.false) (omega arith) over))

pub returns : goal.returns
unfolding written_of
returns c =
    let i = c.args.input in
    let ok = sym c.is_good.ensures ∙ c.if-not-is_good.false in
    let size : ℕ = file_size (length i.bext.now) (length i.chna.now) (length i.audio.now) in
    let fits : (is_wide c.args.form || leb (size - 8) 4294967294) ≡ true = elim c.else-not-is_wide.branch [
      | else-not-is_wide-via-then-not-is_wide+else-size-gt-LARGEST w ↦ or-true (is_wide c.args.form) _ (λ _. le-leb (size - 8) 4294967294 (omega (arith, c.file_size-size.ensures)))
      | else-not-is_wide-via-else-not-is_wide w ↦ ap (λ (x : Bool). x || leb (size - 8) 4294967294) (sym c.is_wide.ensures ∙ w.if-not-is_wide.false)
    ] in
    ap (λ (n : ℕ). Ok n) (c.file_size-size.ensures ∙ sym (file-length _ (good _ _ _ _ ok).sixteen _ _ _ _))
    ∙ sym (ap written_of (whole _ _ _ _ _ ok (omega arith) fits))
