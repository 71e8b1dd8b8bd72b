-- The scan's rule gives the sizes that are told, and no others; so each source is told by the name and the field.
-- Assumes nothing.
use mathlib.Core.Path.{◌≡◌, refl, sym, ap, ◌∙◌, subst}
use mathlib.Core.Bool.{Bool, true, false}
use mathlib.Core.Logic.{◌⊎◌, inl, inr}
use mathlib.Core.List.Memᴰ
use mathlib.Core.List.{List, [], ◌∷◌, ◌++◌, Memᴰ}
use Prim.Native.Nat.{ℕ, ◌+◌}
use native.Mathlib.Nat.{add-zero, zero-add}
use native.Mathlib.Omega.{arith}
use lib.ListN.{length}
use lib.Dec.{eqb}
use borrow.Author.Tests.{eq-eqb, ne_eqb, eqb-true, eqb-false}
use Rattle.chunk.specs.declared.Refusal.TheVariants.{BadDs64, UnknownSize}
use Rattle.chunk.specs.declared.Source.{Source}
use Rattle.chunk.specs.declared.Source.TheVariants.{Own, DataSize, EntryAt}
use Rattle.chunk.specs.declared.TrueSize.{TrueSize}
use Rattle.chunk.specs.Refusals.{Ok}
use Rattle.chunk.specs.Sources.{source_number}
use Rattle.chunk.specs.Names.{DATA}
use Rattle.chunk.specs.Fields.{ONES}
use Rattle.chunk.proofs.Checks.{given-inj, refused-given, pick_true, pick-false}
use Rattle.form.specs.declared.Form.{Form}
use Rattle.form.specs.declared.Ds64.{Ds64}
use Rattle.form.specs.declared.Head.{Head}
use Rattle.truesize.specs.Sizes.{Ds64Entry, data_size, size_at, entry_size, known_size, ones_size, stray_ds64, true_size}
use Rattle.truesize.specs.Told.{FirstEntry, Told, Marks}
use Rattle.truesize.proofs.Ds64Entries.{true-stray, true-field, true-ones}
use Rattle.truesize.proofs.Sizes.{own_is, given-wide, ones-wide, known-data, known-other}

-- a size is its bytes and its source
size_is : (t : TrueSize) (n : ℕ) (s : Source) → t.bytes ≡ n → t.source ≡ s → t ≡ record { bytes = n; source = s }
size_is t n s p q = λ i. record { bytes = p i; source = q i }

-- ---- "the first entry of that name"

first-given : (name p size : ℕ) (ks : List Ds64Entry) → FirstEntry name p size ks → entry_size 0 name ks ≡ Ok (size_at p size)
unfolding entry_size
first-given name p size ks f =
    ap (entry_size 0 name) f.is ∙ go 0 f.before f.none
    ∙ ap (λ (q : ℕ). Ok (size_at q size)) (zero-add (length f.before) ∙ f.at)
  where
    go : (q : ℕ) (xs : List Ds64Entry) → ((k : Ds64Entry) → Memᴰ k xs → k.name ≡ name → ⊥)
        → entry_size q name (xs ++ record { name = name; size = size } ∷ f.after) ≡ Ok (size_at (q + length xs) size)
    go q [] n = pick_true (eqb name name) _ _ (eq-eqb name name refl) ∙ ap (λ (i : ℕ). Ok (size_at i size)) (sym (add-zero q))
    go q (x ∷ xs) n =
        pick-false (eqb x.name name) _ _ (ne_eqb x.name name (n x (Memᴰ.head refl)))
        ∙ go (q + 1) xs (λ k m. n k (Memᴰ.tail m))
        ∙ ap (λ (i : ℕ). Ok (size_at i size)) (let e : q + 1 + length xs ≡ q + length (x ∷ xs) = omega arith in e)

-- the entries from a position on give a size: one of them is the first of the name
record Gives (q name : ℕ) (ks : List Ds64Entry) (t : TrueSize) : Type 0 where
  p : ℕ
  source : t.source ≡ EntryAt (q + p)
  first : FirstEntry name p t.bytes ks

given-first : (q name : ℕ) (ks : List Ds64Entry) (t : TrueSize) → entry_size q name ks ≡ Ok t → Gives q name ks t
unfolding entry_size
given-first q name [] t e = absurd (refused-given UnknownSize t e)
given-first q name (k ∷ ks) t e = go (given-first (q + 1) name ks t) (eqb k.name name) refl
  where
    miss : (k.name ≡ name → ⊥) → (b : List Ds64Entry) → ((x : Ds64Entry) → Memᴰ x b → x.name ≡ name → ⊥) → (x : Ds64Entry) → x.name ≡ name
        → (x ≡ k) ⊎ Memᴰ x b → ⊥
    miss n b f x p (inl i) = n (sym (ap (λ (y : Ds64Entry). y.name) i) ∙ p)
    miss n b f x p (inr m) = f x m p

    go : (entry_size (q + 1) name ks ≡ Ok t → Gives (q + 1) name ks t) → (b : Bool) → eqb k.name name ≡ b → Gives q name (k ∷ ks) t
    go below true h =
        let n : k.name ≡ name = eqb-true k.name name h in
        let z : size_at q k.size ≡ t = given-inj _ t (sym (pick_true (eqb k.name name) _ _ h) ∙ e) in
        record {
          p = 0;
          source = sym (ap (λ (x : TrueSize). x.source) z) ∙ ap EntryAt (sym (add-zero q));
          first =
              record {
                before = [];
                after = ks;
                is = λ i. record { name = n i; size = (z i).bytes } ∷ ks;
                at = refl;
                none = λ x m. absurd (Memᴰ.not-nil m);
              };
        }
    go below false h =
        let g = below (sym (pick-false (eqb k.name name) _ _ h) ∙ e) in
        let f = g.first in
        record {
          p = g.p + 1;
          source = g.source ∙ ap EntryAt (let r : q + 1 + g.p ≡ q + (g.p + 1) = omega arith in r);
          first =
              record {
                before = k ∷ f.before;
                after = f.after;
                is = ap (λ (l : List Ds64Entry). k ∷ l) f.is;
                at = omega (arith, f.at);
                none = λ x m i. miss (eqb-false k.name name h) f.before f.none x i (Memᴰ.cases_cons m);
              };
        }

-- ---- a told size is given

pub told-size : (h : Head) (ks : List Ds64Entry) (at name own : ℕ) (t : TrueSize) → stray_ds64 h.form at name ≡ false
    → Told h.form h.ds64 ks name own t → true_size h ks at name own ≡ Ok t
told-size h ks at name own t p g = go (eqb own ONES) refl
  where
    of-ds64 : own ≡ ONES → (b : Bool) → eqb name DATA ≡ b → known_size h.ds64 ks name ≡ Ok t
    of-ds64 o true e =
        let n = eqb-true name DATA e in
        let a = g.audio o n in
        known-data _ ks name n ∙ ap Ok (sym (size_is t _ _ a.0 a.1))
    of-ds64 o false e =
        let n = eqb-false name DATA e in
        let a = g.other o n in
        known-other _ ks name n ∙ first-given name a.0 _ ks a.2 ∙ ap Ok (sym (size_is t _ _ refl a.1))

    go : (b : Bool) → eqb own ONES ≡ b → true_size h ks at name own ≡ Ok t
    go true e =
        let o = eqb-true own ONES e in
        true-ones h ks at name own p o ∙ ones-wide h.form _ ks name (g.wide o) ∙ of-ds64 o (eqb name DATA) refl
    go false e =
        let o = eqb-false own ONES e in
        let a = g.plain o in
        true-field h ks at name own p o ∙ ap Ok (sym (size_is t _ _ (sym a.0) a.1))

-- ---- a given size is told

pub size-told : (h : Head) (ks : List Ds64Entry) (at name own : ℕ) (t : TrueSize) → true_size h ks at name own ≡ Ok t
    → Told h.form h.ds64 ks name own t
size-told h ks at name own t e =
    record {
      plain = λ k.
          let f = own_is h ks at name own t e k in
          (sym (ap (λ (x : TrueSize). x.bytes) f), ap (λ (x : TrueSize). x.source) f);
      wide = λ o. given-wide h.form _ ks name t (of-ds64 o);
      audio = λ o p.
          let f : t ≡ data_size h.ds64 = given-inj t _ (sym (known o) ∙ known-data _ ks name p) in
          (ap (λ (x : TrueSize). x.bytes) f, ap (λ (x : TrueSize). x.source) f);
      other = λ o p.
          let g = given-first 0 name ks t (sym (known-other _ ks name p) ∙ known o) in
          (g.p, g.source ∙ ap EntryAt (zero-add g.p), g.first);
    }
  where
    placed : (b : Bool) → stray_ds64 h.form at name ≡ b → stray_ds64 h.form at name ≡ false
    placed true s = absurd (refused-given BadDs64 t (sym (true-stray h ks at name own s) ∙ e))
    placed false s = s

    of-ds64 : own ≡ ONES → ones_size h.form h.ds64 ks name ≡ Ok t
    of-ds64 o = sym (true-ones h ks at name own (placed (stray_ds64 h.form at name) refl) o) ∙ e

    known : own ≡ ONES → known_size h.ds64 ks name ≡ Ok t
    known o = sym (ones-wide h.form _ ks name (given-wide h.form _ ks name t (of-ds64 o))) ∙ of-ds64 o

-- ---- what the source tells

pub told-marks : (f : Form) (d : Ds64) (ks : List Ds64Entry) (name own : ℕ) (t : TrueSize) → Told f d ks name own t → Marks d ks name own t
told-marks f d ks name own t g = go (eqb own ONES) refl (eqb name DATA) refl
  where
    -- one source has one number
    one : (x y : Source) → t.source ≡ x → t.source ≡ y → source_number x ≡ source_number y
    one x y p q = ap source_number (sym p ∙ q)

    go : (b : Bool) → eqb own ONES ≡ b → (c : Bool) → eqb name DATA ≡ c → Marks d ks name own t
    go false h c k =
        let n = eqb-false own ONES h in
        let s = (g.plain n).1 in
        record {
          plain = (λ _. n, λ _. s);
          audio = (λ p. absurd (omega (arith, one Own DataSize s p)), λ a. absurd (n a.1));
          given = λ p. absurd (omega (arith, one Own DataSize s p));
          entry = λ i p. absurd (omega (arith, one Own (EntryAt i) s p));
        }
    go true h true k =
        let o = eqb-true own ONES h in
        let n = eqb-true name DATA k in
        let s = g.audio o n in
        record {
          plain = (λ p. absurd (omega (arith, one DataSize Own s.1 p)), λ m. absurd (m o));
          audio = (λ _. (n, o), λ _. s.1);
          given = λ _. s.0;
          entry = λ i p. absurd (omega (arith, one DataSize (EntryAt i) s.1 p));
        }
    go true h false k =
        let o = eqb-true own ONES h in
        let n = eqb-false name DATA k in
        let s = g.other o n in
        record {
          plain = (λ p. absurd (omega (arith, one (EntryAt s.0) Own s.1 p)), λ m. absurd (m o));
          audio = (λ p. absurd (omega (arith, one (EntryAt s.0) DataSize s.1 p)), λ a. absurd (n a.0));
          given = λ p. absurd (omega (arith, one (EntryAt s.0) DataSize s.1 p));
          entry = λ i p.
              let e : s.0 ≡ i = omega (arith, one (EntryAt s.0) (EntryAt i) s.1 p) in
              subst (λ (q : ℕ). FirstEntry name q t.bytes ks) e s.2;
        }
