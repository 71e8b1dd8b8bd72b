-- The words of a bext record, of its parts and of an entry of chna, from what each is known to be.
-- Assumes nothing.
use mathlib.Core.Path.{◌≡◌, ◌∙◌, refl, ap, subst}
use mathlib.Core.Bool.{Bool, true, false}
use mathlib.Core.List.{List, [], ◌∷◌}
use Prim.Native.Nat.{ℕ, ◌+◌, ◌*◌, ◌≤◌, ◌<◌}
use lib.ListN.{length, replicate}
use lib.Seq.{sets}
use lib.Dec.{leb}
use borrow.Author.Tests.{le-leb, lt-leb, leb-true, leb-false}
use native.Mathlib.Omega.{arith}
use Rattle.std.specs.Prelude.{Some, None, MatchResult, IsOkAnd}
use Rattle.le.specs.Choice.{pick}
use Rattle.bext.specs.declared.parts.Parts.{Parts}
use Rattle.chunk.specs.declared.Refusal.{Refusal}
use Rattle.chunk.specs.Refusals.{Answer, Ok, Err, number_of}
use Rattle.words.specs.Answers.{Answers, values_of}
use Rattle.words.proofs.Answered.{same}
use Rattle.bext.specs.Slices.{parts_in, whole_of}
use Rattle.chna_entry.specs.declared.Entry.{Entry as Value}
use Rattle.chna_entry.specs.Entries.{Entry, unused, used, value_of}
use Rattle.chna.specs.Records.{entry_at}
use Rattle.chna.proofs.Entries.{entry_past}
use Rattle.records.specs.Reading.{places_of, parts_values, entry_values}

-- an answer x, known as y, of which a function gave the words: told, it is y's number, and y's words or zeros
pub told : {A : Type 0} (n : ℕ) (x y : Answer A) (values : Answer A → List ℕ) (P : A → List ℕ → Type 0) (r : Answer (List ℕ))
    (w w' : List ℕ) (k : ℕ) → x ≡ y → MatchResult x (λ a. IsOkAnd r (P a)) (λ e. r ≡ Err e)
    → ((a : A) (l : List ℕ) → P a l → l ≡ values (Ok a)) → ((e : Refusal) → replicate n 0 ≡ values (Err e))
    → Answers n (number_of r) (sets w 0 (values_of n r)) w k w' → Answers n (number_of y) (sets w 0 (values y)) w k w'
unfolding values_of
told n x y values P r w w' k is m f g a =
    subst (λ (z : Answer _). Answers n (number_of z) (sets w 0 (values z)) w k w') is (cases x r m a)
  where
    cases : (x : Answer _) (r : Answer (List ℕ)) → MatchResult x (λ a. IsOkAnd r (P a)) (λ e. r ≡ Err e)
        → Answers n (number_of r) (sets w 0 (values_of n r)) w k w' → Answers n (number_of x) (sets w 0 (values x)) w k w'
    cases (Ok a) (Ok l) m t = same n _ _ _ _ _ _ _ refl (ap (sets w 0) (f a l m)) t
    cases (Ok a) (Err e) m t = absurd m
    cases (Err e) r m t = same n _ _ _ _ _ _ _ (ap number_of m) (ap (λ (z : Answer (List ℕ)). sets w 0 (values_of n z)) m ∙ ap (sets w 0) (g e)) t

pub no-parts : (p : List ℕ) → length p < 602 → replicate 14 0 ≡ parts_values p
unfolding parts_values pick
no-parts p h = rw (lt-leb 602 (length p) h)

pub parts : (p : List ℕ) (q : Parts) → 602 ≤ length p → whole_of q ≡ parts_in p
    → 0 ∷ length q.description.now ∷ 256 ∷ length q.originator.now ∷ 288 ∷ length q.reference.now ∷ 320 ∷ length q.date.now ∷ 330 ∷ length q.time.now ∷ 348 ∷ length q.rest.now ∷ 602 ∷ length q.history.now ∷ []
    ≡ parts_values p
unfolding parts_values places_of pick whole_of
parts p q long e = rw (le-leb 602 (length p) long) (ap places_of e)

-- ---- an entry of chna

pub not-used : (at : ℕ) (e : Entry) → value_of e ≡ None → replicate 5 0 ≡ entry_values at e
unfolding value_of entry_values
not-used at unused h = refl
not-used at (used u) h = absurd (let z : ◌≡◌ {A = ℕ} 0 1 = cc in omega arith)

pub is-used : (at : ℕ) (e : Entry) (v : Value) → value_of e ≡ Some v
    → 1 ∷ v.index ∷ (at + 2) ∷ (at + 14) ∷ (at + 28) ∷ [] ≡ entry_values at e
unfolding value_of entry_values
is-used at unused v h = absurd (let z : ◌≡◌ {A = ℕ} 0 1 = cc in omega arith)
is-used at (used u) v h =
    let e : v.index ≡ u.index = cc in
    ap (λ (k : ℕ). 1 ∷ k ∷ (at + 2) ∷ (at + 14) ∷ (at + 28) ∷ []) e

-- one that is used lies in the payload
pub used-there : (i : ℕ) (p : List ℕ) (v : Value) → value_of (entry_at i p) ≡ Some v → 4 + i * 40 + 40 ≤ length p
unfolding value_of
used-there i p v h = cases (leb (4 + i * 40 + 40) (length p)) refl
  where
    cases : (b : Bool) → leb (4 + i * 40 + 40) (length p) ≡ b → 4 + i * 40 + 40 ≤ length p
    cases true e = leb-true (4 + i * 40 + 40) (length p) e
    cases false e =
        let n = ap value_of (entry_past i p (leb-false (4 + i * 40 + 40) (length p) e)) in
        absurd (let z : ◌≡◌ {A = ℕ} 0 1 = cc in omega arith)
