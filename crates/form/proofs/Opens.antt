-- What opening a file tells.
-- Assumes nothing.
use mathlib.Core.Path.{◌≡◌, refl, sym, ap, subst}
use mathlib.Core.Bool.{not}
use mathlib.Core.List.{List}
use Prim.Native.Nat.{ℕ}
use borrow.Author.Tests.{ne_eqb}
use Rattle.le.specs.Number.{number}
use Rattle.chunk.specs.declared.Refusal.{Refusal}
use Rattle.chunk.specs.Refusals.{Answer, Err, Ok}
use Rattle.chunk.specs.Fields.{ONES}
use Rattle.chunk.proofs.Checks.{given-inj, refused-inj, refused-given, check-true}
use Rattle.form.specs.declared.Form.TheVariants.{Riff}
use Rattle.form.specs.declared.Head.{Head}
use Rattle.form.specs.declared.Start.{Start}
use Rattle.form.specs.Forms.{head_as, no_ds64}
use Rattle.form.specs.Code.{opened_as, place_of, room_of}

pub opened-refused : (s : List ℕ) (x : Answer Head) (r : Refusal) → opened_as s x ≡ Err r → x ≡ Err r
unfolding opened_as
opened-refused s (Err q) r e = ap Err (refused-inj q r e)
opened-refused s (Ok g) r e = absurd (refused-given r _ (sym e))

-- what an opening says: its head, and where the walk past ds64 starts
pub record Starts (s : List ℕ) (x : Answer Head) (o : Start) : Type 0 where
  pub head : x ≡ Ok o.head
  pub place : o.place ≡ place_of o.head.form s
  pub room : o.room ≡ room_of o.head.form

pub opened-start : (s : List ℕ) (x : Answer Head) (o : Start) → opened_as s x ≡ Ok o → Starts s x o
unfolding opened_as
opened-start s (Err r) o e = absurd (refused-given r o e)
opened-start s (Ok g) o e = subst (Starts s (Ok g)) (given-inj _ o e) (record { head = refl; place = refl; room = refl })

-- check 3 passes a RIFF whose field is not all ones
pub riff-finished : (s : List ℕ) → (number 4 4 s ≡ ONES → ⊥) → head_as Riff s ≡ Ok (record { form = Riff; ds64 = no_ds64 })
unfolding head_as
riff-finished s n = check-true _ _ _ (ap not (ne_eqb _ _ n))
