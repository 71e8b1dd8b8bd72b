-- `file_parts::own_field` meets its contract: all ones in a 64-bit form.
use mathlib.Core.Path.{◌≡◌, refl, sym, ◌∙◌}
use Prim.Native.Nat.{ℕ}
use Rattle.le.specs.Choice.{pick}
use Rattle.chunk.specs.Fields.{ONES}
use Rattle.chunk.proofs.Checks.{pick_true, pick-false}
use Rattle.form.specs.declared.Form.{Form}
use Rattle.form.specs.declared.Form.TheVariants.{Riff, Rf64, Bw64}
use Rattle.form.specs.Forms.{is_wide}
use Rattle.file_parts.specs.Parts.{own_field}
use Rattle.file_parts.proofs.own_field.Goals as goal

own-picked : (form : Form) (size : ℕ) → pick (is_wide form) ONES size ≡ own_field form size
unfolding own_field is_wide pick
own-picked Riff size = refl
own-picked Rf64 size = refl
own-picked Bw64 size = refl

pub returns-then-is_wide : goal.returns-then-is_wide
returns-then-is_wide c =
    sym (pick_true _ _ _ (sym c.is_wide.ensures ∙ c.if-is_wide.true)) ∙ own-picked c.args.form c.args.size

pub returns-else-is_wide : goal.returns-else-is_wide
returns-else-is_wide c =
    sym (pick-false _ _ _ (sym c.is_wide.ensures ∙ c.if-is_wide.false)) ∙ own-picked c.args.form c.args.size
