-- `truesize::step` meets its contract: a law for each outcome of the size rule, and one size where the two ways meet.
use mathlib.Core.Path.{◌≡◌, ◌∙◌, ap, ap₂, sym}
use mathlib.Core.List.{List}
use Prim.Native.Nat.{ℕ, ◌-◌}
use native.Mathlib.Omega.{arith}
use lib.ListN.{length}
use Rattle.chunk.specs.declared.Header.{Header}
use Rattle.chunk.specs.declared.TrueSize.{TrueSize}
use Rattle.chunk.specs.Refusals.{Answer, Ok}
use Rattle.chunk.specs.Walks.{Rule, past}
use Rattle.chunk.specs.Code.{HeaderAt, found_as, step_on}
use Rattle.chunk.proofs.Turns.{placed-ends, ends-past}
use Rattle.truesize.specs.Sizes.{entries_of, ones_size, true_size}
use Rattle.truesize.proofs.Ds64Entries.{true-stray, true-field, true-ones}
use Rattle.truesize.proofs.Sizes.{other-placed, stray-placed}
use Rattle.form.specs.declared.Head.{Head}
use Rattle.chunk.specs.Names.{DS64}
use Rattle.chunk.specs.Fields.{ONES}
use Rattle.truesize.proofs.step.Goals.{then-h-eq-ONES+in-Ok, else-h-eq-ONES}
use Rattle.truesize.proofs.step.Goals as goal

-- the rule's answer at a header that was read
at-header : (rule : Rule) {s : List ℕ} {place : ℕ} {h : Header} {x : Answer TrueSize} → HeaderAt place s h → rule (place - 8) h.name h.field ≡ x
    → found_as (length s) place h.name x ≡ step_on rule s place
unfolding step_on
at-header rule {s} {place} p e =
    ap (found_as _ _ _) (sym e) ∙ ap₂ (λ (n f : ℕ). found_as (length s) place n (rule (place - 8) n f)) p.name p.field

-- where the field is all ones, and the name isn't ds64's, the rule says what ds64 says
by-ds64 : (head : Head) (s : List ℕ) (place : ℕ) (h : Header) → (h.name ≡ DS64 → ⊥) → h.field ≡ ONES
    → true_size head (entries_of head s) (place - 8) h.name h.field ≡ ones_size head.form head.ds64 (entries_of head s) h.name
by-ds64 head s place h n f = true-ones _ _ _ _ _ (other-placed _ _ _ n) f

pub returns-then-h-eq-DS64 : goal.returns-then-h-eq-DS64
unfolding found_as
returns-then-h-eq-DS64 c =
    let p = c.requires in
    at-header _ p.1 (true-stray _ _ _ _ _ (stray-placed _ _ _ c.if-h-eq-DS64.true λ w e. omega (arith, p.0.later w, e)))

pub returns-in-Err : goal.returns-in-Err
unfolding found_as
returns-in-Err c =
    at-header _ c.requires.1
    (by-ds64 _ _ _ _ c.if-h-eq-DS64.false c.if-h-eq-ONES.true ∙ sym c.ones_size.ensures ∙ c.in-Err.is)

pub returns-in-Ok-2 : goal.returns-in-Ok-2
unfolding found_as past
returns-in-Ok-2 c =
    sym (placed-ends _ _ (omega arith) ∙ ends-past _ _ _ (omega arith))
    ∙ at-header _ c.requires.1
    (by-ds64 _ _ _ _ c.if-h-eq-DS64.false c.if-h-eq-ONES.true
    ∙ sym c.ones_size.ensures ∙ c.in-Ok.is)

pub returns : goal.returns
unfolding found_as
returns c =
    let size : true_size c.args.head (entries_of c.args.head c.args.file.now) (c.args.place - 8) c.args.h.name c.args.h.field ≡ Ok c.if-h-eq-ONES.size =
    elim c.if-h-eq-ONES.branch [
      | then-h-eq-ONES+in-Ok w ↦
          by-ds64 _ _ _ _ c.if-h-eq-DS64.false w.if-h-eq-ONES.true
          ∙ sym w.ones_size.ensures ∙ w.in-Ok.is
          ∙ ap Ok (sym w.size-is)
      | else-h-eq-ONES w ↦
          true-field _ _ _ _ _ (other-placed _ _ _ c.if-h-eq-DS64.false) w.if-h-eq-ONES.false
          ∙ ap Ok (sym (w.size-is ∙ w.own-size.ensures))
    ] in
    c.found.ensures ∙ at-header _ c.requires.1 size
