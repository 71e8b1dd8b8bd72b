-- The laws of whole texts and of zeros after them.
-- Assumes nothing.
use mathlib.Core.Path.{◌≡◌, refl, sym, ap, ap₂, ◌∙◌}
use mathlib.Core.Bool.{Bool, true, false}
use mathlib.Core.List.{List, [], ◌∷◌, ◌++◌}
use Prim.Native.Nat.{ℕ, zero, suc, ◌-◌, ◌≤◌}
use native.Mathlib.Omega.{arith}
use lib.ListN.{length, drop, replicate, length-drop}
use lib.Seq.{drop-append_seam}
use lib.Dec.{eqb, leb}
use borrow.Author.Tests.{eqb-true, leb-true}
use Rattle.le.specs.Choice.{pick}
use Rattle.chunk.proofs.Checks.{true-false, and-true}
use Rattle.bext_parts.specs.Parts.{all_zero, text_of, text_good, text_given, padded}
use Rattle.bext_parts.proofs.Runs.{run_short, run-text}

-- a text is no longer than its bytes
pub text-short : (s : List ℕ) → length (text_of s) ≤ length s
text-short s = omega (arith, run-text s, run_short false s)

pub ruleset short_texts = (text-short)

-- ---- whole texts

-- absurd, by the length of a text that stops where its bytes go on
stopped : {A : Type 0} (n : ℕ) → 0 ≡ suc n → A
stopped n e = absurd (omega arith)

-- the text of a text is that text
pub text-again : (s : List ℕ) → length (text_of (text_of s)) ≡ length (text_of s)
unfolding text_of
text-again [] = refl
text-again (b ∷ s) = which (eqb b 0) refl (text-again s)
  where
    which : (z : Bool) → eqb b 0 ≡ z → length (text_of (text_of s)) ≡ length (text_of s)
        → length (text_of (pick z [] (b ∷ text_of s))) ≡ length (pick z [] (b ∷ text_of s))
    which true e h = refl
    which false e h = rw e (ap suc h)

-- a text with zeros after it
text-padded : (k : ℕ) (t : List ℕ) → length (text_of t) ≡ length t → text_of (t ++ replicate k 0) ≡ t
unfolding text_of
text-padded zero [] e = refl
text-padded (suc k) [] e = refl
text-padded k (b ∷ t) e = which (eqb b 0) (text-padded k t) e
  where
    which : (z : Bool) → (length (text_of t) ≡ length t → text_of (t ++ replicate k 0) ≡ t)
        → length (pick z [] (b ∷ text_of t)) ≡ suc (length t) → pick z [] (b ∷ text_of (t ++ replicate k 0)) ≡ b ∷ t
    which true h e = stopped (length t) e
    which false h e = ap (λ l. b ∷ l) (h (omega arith))

-- bytes are their text and what stands behind it
pub text-then : (s : List ℕ) → text_of s ++ drop (length (text_of s)) s ≡ s
unfolding text_of
text-then [] = refl
text-then (b ∷ s) = which (eqb b 0) (text-then s)
  where
    which : (z : Bool) → text_of s ++ drop (length (text_of s)) s ≡ s
        → pick z [] (b ∷ text_of s) ++ drop (length (pick z [] (b ∷ text_of s))) (b ∷ s) ≡ b ∷ s
    which true h = refl
    which false h = ap (λ l. b ∷ l) h

-- ---- runs of zeros

pub zeros-zero : (k : ℕ) → all_zero (replicate k 0) ≡ true
unfolding all_zero
zeros-zero zero = refl
zeros-zero (suc k) = zeros-zero k

pub zero-zeros : (s : List ℕ) → all_zero s ≡ true → replicate (length s) 0 ≡ s
unfolding all_zero
zero-zeros [] e = refl
zero-zeros (b ∷ s) e = which (eqb b 0) refl (zero-zeros s) e
  where
    which : (z : Bool) → eqb b 0 ≡ z → (all_zero s ≡ true → replicate (length s) 0 ≡ s)
        → pick z (all_zero s) false ≡ true → 0 ∷ replicate (length s) 0 ≡ b ∷ s
    which true f h e = ap₂ (λ (x : ℕ) (l : List ℕ). x ∷ l) (sym (eqb-true b 0 f)) (h e)
    which false f h e = absurd (true-false false e refl)

-- ---- a text that is given: it fits its place, and none of its bytes is zero

pub text-fits : (n : ℕ) (t : List ℕ) → text_given n t ≡ true → length t ≤ n
unfolding text_given
text-fits n t e = leb-true (length t) n (and-true (leb (length t) n) (eqb (length (text_of t)) (length t)) e).0

pub text-whole : (n : ℕ) (t : List ℕ) → text_given n t ≡ true → length (text_of t) ≡ length t
unfolding text_given
text-whole n t e = eqb-true (length (text_of t)) (length t) (and-true (leb (length t) n) (eqb (length (text_of t)) (length t)) e).1

-- ---- a text in its place

-- a text of at most n bytes, none of them zero, padded to n, is read back
pub padded-text : (n : ℕ) (t : List ℕ) → length (text_of t) ≡ length t → text_of (padded n t) ≡ t
unfolding padded
padded-text n t e = text-padded (n - length t) t e

pub padded-good : (n : ℕ) (t : List ℕ) → length (text_of t) ≡ length t → text_good (padded n t) ≡ true
unfolding padded text_good
padded-good n t e =
    ap (λ k. all_zero (drop (length k) (t ++ replicate (n - length t) 0))) (text-padded (n - length t) t e)
    ∙ ap all_zero (drop-append_seam t (replicate (n - length t) 0))
    ∙ zeros-zero (n - length t)

-- bytes that are a text and zeros are their text padded
pub text-back : (n : ℕ) (s : List ℕ) → length s ≡ n → text_good s ≡ true → padded n (text_of s) ≡ s
unfolding padded text_good
text-back n s l e =
    let k : n - length (text_of s) ≡ length (drop (length (text_of s)) s) = omega (arith, length-drop (length (text_of s)) s) in
    ap (λ m. text_of s ++ replicate m 0) k
    ∙ ap (λ z. text_of s ++ z) (zero-zeros (drop (length (text_of s)) s) e)
    ∙ text-then s
