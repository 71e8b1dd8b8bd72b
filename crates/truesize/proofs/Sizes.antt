-- The true size of a chunk: what a known size tells, and which sizes are known. A field that is not all ones is the size;
-- RIFF knows no other; in the 64-bit forms an all-ones field on data is ds64's data size, and ds64 itself stands at byte 12.
-- Assumes nothing.
use mathlib.Core.Path.{◌≡◌, refl, sym, ◌∙◌, ap}
use mathlib.Core.Bool.{Bool, true, false, not, ◌&&◌}
use mathlib.Core.List.{List, [], ◌∷◌}
use Prim.Native.Nat.{ℕ, ◌+◌}
use native.Mathlib.Omega.{arith}
use lib.Dec.{eqb}
use borrow.Author.Tests.{eq-eqb, ne_eqb, eqb-true, not-true}
use Rattle.le.specs.Choice.{pick}
use Rattle.chunk.specs.declared.TrueSize.{TrueSize}
use Rattle.chunk.specs.declared.Refusal.{Refusal}
use Rattle.chunk.specs.declared.Refusal.TheVariants.{BadDs64, UnknownSize}
use Rattle.chunk.specs.Refusals.{Answer, Err, Ok}
use Rattle.chunk.specs.Names.{DS64, DATA}
use Rattle.chunk.specs.Fields.{ONES}
use Rattle.chunk.specs.Walks.{field_size}
use Rattle.chunk.proofs.Checks.{given-inj, refused-given, true-false, check-given, pick_true, pick-false, picked}
use Rattle.form.specs.declared.Form.{Form}
use Rattle.form.specs.declared.Form.TheVariants.{Riff, Rf64, Bw64}
use Rattle.form.specs.declared.Ds64.{Ds64}
use Rattle.form.specs.declared.Head.{Head}
use Rattle.form.specs.Forms.{is_wide}
use Rattle.truesize.specs.Sizes.{Ds64Entry, data_size, entry_size, known_size, ones_size, stray_ds64, true_size}
use Rattle.truesize.proofs.Ds64Entries.{true-field, true-ones}

-- ---- ds64's place

in_place : (d w x : Bool) → d && not (w && x) ≡ false → d ≡ true → (w ≡ true) × (x ≡ true)
in_place true true true e p = (refl, refl)
in_place true true false e p = absurd (true-false true refl e)
in_place true false x e p = absurd (true-false true refl e)
in_place false w x e p = absurd (true-false false p refl)

pub other-placed : (f : Form) (at name : ℕ) → (name ≡ DS64 → ⊥) → stray_ds64 f at name ≡ false
unfolding stray_ds64
other-placed f at name k = rw (ne_eqb name DS64 k)

-- a ds64 that isn't first in a 64-bit form is out of place
pub stray-placed : (f : Form) (at name : ℕ) → name ≡ DS64 → (is_wide f ≡ true → at ≡ 12 → ⊥) → stray_ds64 f at name ≡ true
unfolding stray_ds64
stray-placed f at name e k = rw (eq-eqb name DS64 e) (go (is_wide f) refl)
  where
    go : (w : Bool) → is_wide f ≡ w → not (w && eqb at 12) ≡ true
    go true p = ap not (ne_eqb at 12 (k p))
    go false p = refl

pub first-placed : (f : Form) → is_wide f ≡ true → stray_ds64 f 12 DS64 ≡ false
unfolding stray_ds64
first-placed f w = rw w

-- ---- what a known size tells

module _ (h : Head) (ks : List Ds64Entry) (at name own : ℕ) (t : TrueSize) (e : true_size h ks at name own ≡ Ok t) where
  allowed : (not (stray_ds64 h.form at name) ≡ true)
      × (pick (eqb own ONES) (ones_size h.form h.ds64 ks name) (Ok (field_size own)) ≡ Ok t)
  unfolding true_size
  allowed = check-given (not (stray_ds64 h.form at name)) BadDs64 _ t e

  -- "A size field that is not all ones is the true size"
  pub own_is : (own ≡ ONES → ⊥) → t ≡ field_size own
  own_is k = sym (given-inj _ t (sym (pick-false (eqb own ONES) _ _ (ne_eqb own ONES k)) ∙ allowed.1))

  pub own-true : (own ≡ ONES → ⊥) → t.bytes ≡ own
  own-true k = ap (λ (x : TrueSize). x.bytes) (own_is k)

  -- "A ds64 anywhere else, or in RIFF, is refused"
  pub ds64-first : name ≡ DS64 → (is_wide h.form ≡ true) × (at ≡ 12)
  unfolding stray_ds64
  ds64-first k =
      let c = in_place (eqb name DS64) (is_wide h.form) (eqb at 12) (not-true _ allowed.0) (eq-eqb name DS64 k) in
      (c.0, eqb-true at 12 c.1)

  -- in RIFF no field is all ones
  pub riff-own : h.form ≡ Riff → own ≡ ONES → ⊥
  unfolding ones_size
  riff-own f k =
      refused-given UnknownSize t
      (sym (ap (λ (x : Form). ones_size x h.ds64 ks name) f)
      ∙ sym (pick_true (eqb own ONES) _ _ (eq-eqb own ONES k))
      ∙ allowed.1)

-- ---- an all-ones field

pub ones-riff : (f : Form) (d : Ds64) (ks : List Ds64Entry) (name : ℕ) → is_wide f ≡ false → ones_size f d ks name ≡ Err UnknownSize
unfolding is_wide ones_size
ones-riff Riff d ks name w = refl
ones-riff Rf64 d ks name w = absurd (true-false true refl w)
ones-riff Bw64 d ks name w = absurd (true-false true refl w)

pub ones-wide : (f : Form) (d : Ds64) (ks : List Ds64Entry) (name : ℕ) → is_wide f ≡ true → ones_size f d ks name ≡ known_size d ks name
unfolding is_wide ones_size
ones-wide Riff d ks name w = absurd (true-false false w refl)
ones-wide Rf64 d ks name w = refl
ones-wide Bw64 d ks name w = refl

-- only ds64 gives it a size
pub given-wide : (f : Form) (d : Ds64) (ks : List Ds64Entry) (name : ℕ) (t : TrueSize) → ones_size f d ks name ≡ Ok t → is_wide f ≡ true
unfolding is_wide ones_size
given-wide Riff d ks name t e = absurd (refused-given UnknownSize t e)
given-wide Rf64 d ks name t e = refl
given-wide Bw64 d ks name t e = refl

pub known-data : (d : Ds64) (ks : List Ds64Entry) (name : ℕ) → name ≡ DATA → known_size d ks name ≡ Ok (data_size d)
unfolding known_size
known-data d ks name e = pick_true _ _ _ (eq-eqb name DATA e)

pub known-other : (d : Ds64) (ks : List Ds64Entry) (name : ℕ) → (name ≡ DATA → ⊥) → known_size d ks name ≡ entry_size 0 name ks
unfolding known_size
known-other d ks name n = pick-false _ _ _ (ne_eqb name DATA n)

-- where no size is known, that is 7
abbrev Only7 : Answer TrueSize → Type 0
Only7 x = (r : Refusal) → x ≡ Err r → x ≡ Err UnknownSize

given-only : (t : TrueSize) → Only7 (Ok t)
given-only t r e = absurd (refused-given r t (sym e))

entry-only : (p name : ℕ) (ks : List Ds64Entry) → Only7 (entry_size p name ks)
unfolding entry_size
entry-only p name [] = λ _ _. refl
entry-only p name (k ∷ ks) = picked Only7 (eqb k.name name) _ _ (λ _. given-only _) λ _. entry-only (p + 1) name ks

known_only : (d : Ds64) (ks : List Ds64Entry) (name : ℕ) → Only7 (known_size d ks name)
unfolding known_size
known_only d ks name = picked Only7 (eqb name DATA) _ _ (λ _. given-only _) λ _. entry-only 0 name ks

pub ones-only : (f : Form) (d : Ds64) (ks : List Ds64Entry) (name : ℕ) → Only7 (ones_size f d ks name)
unfolding ones_size
ones-only Riff d ks name = λ _ _. refl
ones-only Rf64 d ks name = known_only d ks name
ones-only Bw64 d ks name = known_only d ks name

-- ---- which sizes are known

-- whatever ds64 says: "An entry for a size that isn't all ones has no effect"
pub true-own : (h : Head) (ks : List Ds64Entry) (at name own : ℕ) → (name ≡ DS64 → ⊥) → (own ≡ ONES → ⊥)
    → true_size h ks at name own ≡ Ok (field_size own)
true-own h ks at name own k l = true-field h ks at name own (other-placed h.form at name k) l

pub true-ds64 : (h : Head) (ks : List Ds64Entry) (own : ℕ) → is_wide h.form ≡ true → (own ≡ ONES → ⊥)
    → true_size h ks 12 DS64 own ≡ Ok (field_size own)
true-ds64 h ks own w l = true-field h ks 12 DS64 own (first-placed h.form w) l

-- "on data, the ds64 data size"
pub true-data : (h : Head) (ks : List Ds64Entry) (at : ℕ) → is_wide h.form ≡ true
    → true_size h ks at DATA ONES ≡ Ok (data_size h.ds64)
unfolding ones_size is_wide
true-data h ks at w = true-ones h ks at DATA ONES (other-placed h.form at DATA (λ p. omega arith)) refl ∙ go h.form w
  where
    go : (f : Form) → is_wide f ≡ true → ones_size f h.ds64 ks DATA ≡ Ok (data_size h.ds64)
    go Riff e = absurd (true-false false e refl)
    go Rf64 e = refl
    go Bw64 e = refl
