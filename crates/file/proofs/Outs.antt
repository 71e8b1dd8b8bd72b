-- The file that is written, or its refusal: one law for each outcome; and back, what the judge's answer tells.
-- Assumes nothing.
use mathlib.Core.Path.{◌≡◌, refl, sym, ap, ◌∙◌}
use mathlib.Core.Bool.{Bool, true, false, ◌||◌, ◌&&◌}
use mathlib.Core.List.{List}
use Prim.Native.Nat.{ℕ, ◌-◌, ◌≤◌, ◌<◌}
use native.Mathlib.Omega.{arith}
use lib.ListN.{length}
use lib.Dec.{leb}
use borrow.Author.Tests.{le-leb, lt-leb, leb-true}
use Rattle.chunk.specs.declared.Refusal.{Refusal}
use Rattle.chunk.specs.declared.Refusal.TheVariants.{BadRecord, TooLarge}
use Rattle.chunk.specs.Refusals.{Answer, Err, Ok}
use Rattle.chunk.specs.Writes.{written_of}
use Rattle.chunk.proofs.Checks.{check-true, check-false, check-given, given-inj, and-true, or-false}
use Rattle.form.specs.declared.Form.{Form}
use Rattle.form.specs.declared.Form.TheVariants.{Riff}
use Rattle.form.specs.Forms.{is_wide}
use Rattle.fmt.specs.declared.Format.{Format}
use Rattle.file.specs.Files.{form_size_for, file_bytes, input_good, sizes_good, file_out}
use Rattle.file.specs.Code.{file_size}
use Rattle.file.proofs.Inputs.{Good, good}
use Rattle.file.proofs.Sizes.{form-size}

-- ---- the outcomes

module _ (form : Form) (f : Format) (b c a : List ℕ) where
  pub bad-record : input_good f b c a ≡ false → file_out form f b c a ≡ Err BadRecord
  unfolding file_out
  bad-record e = check-false (input_good f b c a) _ _ e

  module _ (ok : input_good f b c a ≡ true) where
    too_large : sizes_good form (form_size_for form f b c a) (length b) ≡ false → file_out form f b c a ≡ Err TooLarge
    unfolding file_out
    too_large e = check-true (input_good f b c a) _ _ ok ∙ check-false (sizes_good form (form_size_for form f b c a) (length b)) _ _ e

    pub large-bext : 4294967294 < length b → file_out form f b c a ≡ Err TooLarge
    unfolding sizes_good
    large-bext h = too_large (ap (λ (x : Bool). x && (is_wide form || leb (form_size_for form f b c a) 4294967294)) (lt-leb (length b) 4294967294 h))

    module _ (fits : length b ≤ 4294967294) where
      sized : {x : Bool} → (is_wide form || leb (file_size (length b) (length c) (length a) - 8) 4294967294) ≡ x
          → sizes_good form (form_size_for form f b c a) (length b) ≡ x
      unfolding sizes_good
      sized e =
          ap (λ (x : Bool). x && (is_wide form || leb (form_size_for form f b c a) 4294967294)) (le-leb (length b) 4294967294 fits)
          ∙ ap (λ (n : ℕ). is_wide form || leb n 4294967294) (form-size f (good f b c a ok).sixteen form b c a)
          ∙ e

      pub large-form : (is_wide form || leb (file_size (length b) (length c) (length a) - 8) 4294967294) ≡ false
          → file_out form f b c a ≡ Err TooLarge
      large-form e = too_large (sized e)

      pub whole : (is_wide form || leb (file_size (length b) (length c) (length a) - 8) 4294967294) ≡ true
          → file_out form f b c a ≡ Ok (file_bytes form f b c a)
      unfolding file_out
      whole e =
          check-true (input_good f b c a) _ _ ok ∙ check-true (sizes_good form (form_size_for form f b c a) (length b)) _ _ (sized e)

-- ---- an input that is not refused

pub record Fine (form : Form) (f : Format) (b c a : List ℕ) : Type 0 where
  pub is_good : input_good f b c a ≡ true
  pub input : Good f b c a
  pub bext_fits : length b ≤ 4294967294
  pub form_fits : form ≡ Riff → form_size_for form f b c a ≤ 4294967294

sizes-told : (form : Form) (size n : ℕ) → sizes_good form size n ≡ true → (n ≤ 4294967294) × (form ≡ Riff → size ≤ 4294967294)
unfolding sizes_good is_wide
sizes-told form size n e =
    let k = and-true (leb n 4294967294) (is_wide form || leb size 4294967294) e in
    (leb-true n 4294967294 k.0, λ r. leb-true size 4294967294 (or-false (is_wide form) _ k.1 (ap is_wide r)))

pub out-fine : (form : Form) (f : Format) (b c a bs : List ℕ) → file_out form f b c a ≡ Ok bs
    → Fine form f b c a × (file_bytes form f b c a ≡ bs)
unfolding file_out
out-fine form f b c a bs e =
    let c1 = check-given (input_good f b c a) _ _ bs e in
    let c2 = check-given (sizes_good form (form_size_for form f b c a) (length b)) _ _ bs c1.1 in
    let k = sizes-told form (form_size_for form f b c a) (length b) c2.0 in
    (record { is_good = c1.0; input = good f b c a c1.0; bext_fits = k.0; form_fits = k.1 }, given-inj _ _ c2.1)

-- ---- what the judge's answer tells

pub judged-refused : (x : Answer (List ℕ)) (r : Refusal) → written_of x ≡ Err r → x ≡ Err r
unfolding written_of
judged-refused (Err q) r e = ap Err (let z : q ≡ r = cc in z)
judged-refused (Ok bs) r e = absurd (let z : ◌≡◌ {A = ℕ} 0 1 = cc in omega arith)

size-given : (x : Answer (List ℕ)) (n : ℕ) → written_of x ≡ Ok n → (bs : List ℕ) × ((x ≡ Ok bs) × (n ≡ length bs))
unfolding written_of
size-given (Err q) n e = absurd (let z : ◌≡◌ {A = ℕ} 0 1 = cc in omega arith)
size-given (Ok bs) n e = (bs, (refl, (let z : n ≡ length bs = cc in z)))

-- a file of n bytes
pub record Sized (form : Form) (f : Format) (b c a : List ℕ) (n : ℕ) : Type 0 where
  pub input : Good f b c a
  pub is_given : file_out form f b c a ≡ Ok (file_bytes form f b c a)
  pub long : n ≡ length (file_bytes form f b c a)

pub judged-size : (form : Form) (f : Format) (b c a : List ℕ) (n : ℕ) → written_of (file_out form f b c a) ≡ Ok n
    → Sized form f b c a n
judged-size form f b c a n e =
    let k = size-given (file_out form f b c a) n e in
    let w = out-fine form f b c a k.0 k.1.0 in
    record {
      input = w.0.input;
      is_given = k.1.0 ∙ ap Ok (sym w.1);
      long = k.1.1 ∙ ap length (sym w.1);
    }
