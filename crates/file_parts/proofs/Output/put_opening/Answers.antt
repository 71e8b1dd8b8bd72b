-- `file_parts::Output::put_opening` meets its contract: in each arm the form is known.
use mathlib.Core.Path.{◌≡◌, ap}
use Prim.Native.Nat.{ℕ}
use Rattle.le.specs.Number.{bytes}
use Rattle.form.specs.declared.Form.{Form}
use Rattle.form.specs.Forms.{name_of}
use Rattle.file_parts.specs.declared.Output.{Output}
use Rattle.file_parts.specs.Parts.{opening_bytes, first_chunk, own_field}
use Rattle.file_parts.specs.Code.{Puts}
use Rattle.file_parts.proofs.Stores.{puts-as}
use Rattle.file_parts.proofs.Output.put_opening.Goals as goal

-- what is stored for the form that was matched
at-form : (size audio frames : ℕ) {form known : Form} {o u : Output} → form ≡ known → Puts (opening_bytes known size audio frames) o u
    → Puts (opening_bytes form size audio frames) o u
at-form size audio frames e w = puts-as _ _ (ap (λ (f : Form). opening_bytes f size audio frames) e) w

pub returns-in-Riff : goal.returns-in-Riff
unfolding bytes first_chunk name_of opening_bytes own_field
returns-in-Riff c =
    at-form _ _ _ c.in-Riff.is c.put_first.ensures

pub returns-in-Rf64 : goal.returns-in-Rf64
unfolding bytes first_chunk name_of opening_bytes own_field
returns-in-Rf64 c =
    at-form _ _ _ c.in-Rf64.is c.put_first-in-Rf64.ensures

pub returns-in-Bw64 : goal.returns-in-Bw64
unfolding bytes first_chunk name_of opening_bytes own_field
returns-in-Bw64 c =
    at-form _ _ _ c.in-Bw64.is c.put_first-in-Bw64.ensures
