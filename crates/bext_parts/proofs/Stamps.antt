-- A date or a time in its place: not set is all zero, one that is set is not, and too few bytes are never good.
-- Assumes nothing.
use mathlib.Core.Path.{◌≡◌, refl, ap, ◌∙◌}
use mathlib.Core.Bool.{Bool, true, false, ◌&&◌, ◌||◌}
use mathlib.Core.List.{List, [], ◌∷◌, ◌++◌, append-nil}
use Prim.Native.Nat.{ℕ, ◌-◌, ◌≤◌, ◌<◌}
use native.Mathlib.Omega.{arith}
use borrow.Author.Tests.{eq-eqb, ne_eqb, eqb-true}
use lib.ListN.{length, get_or, replicate}
use lib.Dec.{eqb}
use Rattle.le.specs.Choice.{pick}
use Rattle.chunk.proofs.Checks.{true-false, and-true, or-true}
use Rattle.bext_parts.specs.Parts.{all_zero, is_digit, two_digits, date_good, time_good, set_of, padded}
use Rattle.bext_parts.proofs.Texts.{zeros-zero, zero-zeros}
use Rattle.bext_parts.proofs.Digits.{digit_low, cut_short}
use Rattle.std.proofs.Math.Bool.{and-false}

-- ---- a good date or time starts with a digit, so it is not all zero

starts : (s : List ℕ) → is_digit (get_or s 0 0) ≡ true → all_zero s ≡ false
unfolding all_zero
starts [] e = absurd (omega (arith, digit_low 0 e))
starts (b ∷ s) e = rw (ne_eqb b 0 (λ z. omega (arith, digit_low b e)))

pub date-set : (d : List ℕ) → date_good d ≡ true → all_zero d ≡ false
unfolding date_good two_digits
date-set d e = which (is_digit (get_or d 0 0)) refl
  where
    which : (t : Bool) → is_digit (get_or d 0 0) ≡ t → all_zero d ≡ false
    which true f = starts d f
    which false f = absurd (true-false false (rw f at e) refl)

pub time-set : (t : List ℕ) → time_good t ≡ true → all_zero t ≡ false
unfolding time_good two_digits
time-set d e = which (is_digit (get_or d 0 0)) refl
  where
    which : (t : Bool) → is_digit (get_or d 0 0) ≡ t → all_zero d ≡ false
    which true f = starts d f
    which false f = absurd (true-false false (rw f at e) refl)

-- ---- too few bytes are no date and no time

pub date-short : (d : List ℕ) → length d < 10 → date_good d ≡ false
unfolding date_good
date-short d h = simp (cut_short d 8 1 31 (omega arith), and-false)

pub time-short : (t : List ℕ) → length t < 8 → time_good t ≡ false
unfolding time_good
time-short t h = simp (cut_short t 6 0 59 (omega arith), and-false)

pub ruleset set_or_short = (date-set, date-short, time-set, time-short)

-- ---- one that is given fits its place: none, or n that are good

pub length-given : (k n : ℕ) (b : Bool) → (eqb k 0 || eqb k n && b) ≡ true → k ≤ n
length-given k n b e = first (eqb k 0) refl e
  where
    second : (t : Bool) → eqb k n ≡ t → (t && b) ≡ true → k ≤ n
    second true f h = omega (arith, eqb-true k n f)
    second false f h = let z : ◌≡◌ {A = ℕ} 0 1 = cc in absurd (omega arith)

    first : (t : Bool) → eqb k 0 ≡ t → (t || eqb k n && b) ≡ true → k ≤ n
    first true f h = omega (arith, eqb-true k 0 f)
    first false f h = second (eqb k n) refl h

-- ---- both ways, for any rule whose bytes are not all zero

padded-full : (n : ℕ) (d : List ℕ) → length d ≡ n → padded n d ≡ d
unfolding padded
padded-full n d l =
    let k : n - length d ≡ 0 = omega arith in
    ap (λ m. d ++ replicate m 0) k ∙ append-nil d

none : (d : List ℕ) → length d ≡ 0 → d ≡ []
none [] l = refl
none (b ∷ d) l = absurd (omega arith)

-- what is written, as it is read
pub record Back (rule : List ℕ → Bool) (n : ℕ) (d : List ℕ) : Type 0 where
  pub is : set_of (padded n d) ≡ d
  pub holds : (all_zero (padded n d) || rule (padded n d)) ≡ true

-- what is read, as it is written
pub record Forth (rule : List ℕ → Bool) (n : ℕ) (d : List ℕ) : Type 0 where
  pub is : padded n (set_of d) ≡ d
  pub holds : (eqb (length (set_of d)) 0 || eqb (length (set_of d)) n && rule (set_of d)) ≡ true

module _ (rule : List ℕ → Bool) (n : ℕ) (set : (d : List ℕ) → rule d ≡ true → all_zero d ≡ false) where
  unset-back : Back rule n []
  unfolding set_of padded
  unset-back = record { is = rw (zeros-zero (n - 0)); holds = rw (zeros-zero (n - 0)) }

  set_back : (d : List ℕ) → length d ≡ n → rule d ≡ true → Back rule n d
  unfolding set_of
  set_back d l e =
      record {
        is = rw (padded-full n d l, set d e);
        holds = rw (padded-full n d l, set d e) e;
      }

  pub back : (d : List ℕ) → (eqb (length d) 0 || eqb (length d) n && rule d) ≡ true → Back rule n d
  back d e = which (eqb (length d) 0) refl
    where
      which : (t : Bool) → eqb (length d) 0 ≡ t → Back rule n d
      which true f = rw (none d (eqb-true (length d) 0 f)) unset-back
      which false f =
          let b = and-true (eqb (length d) n) (rule d) (rw f at e) in
          set_back d (eqb-true (length d) n b.0) b.1

  pub forth : (d : List ℕ) → length d ≡ n → (all_zero d || rule d) ≡ true → Forth rule n d
  unfolding set_of padded pick
  forth d l e = which (all_zero d) refl
    where
      which : (t : Bool) → all_zero d ≡ t → Forth rule n d
      which true f =
          let m : n - 0 ≡ length d = omega arith in
          record { is = rw f (ap (λ (k : ℕ). replicate {A = ℕ} k 0) m ∙ zero-zeros d f); holds = rw f }
      which false f = record { is = rw f (padded-full n d l); holds = rw (f, eq-eqb (length d) n l) (or-true (eqb (length d) 0) (rule d) (λ z. rw f at e)) }
