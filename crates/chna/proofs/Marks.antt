-- A set of numbers as bits of words: setting a number's bit sets that number's and no other's.
-- Assumes nothing.
use Rattle.std.proofs.Common.{arith, ◌≡◌, refl, sym, ap, ◌∙◌, ℕ, zero, suc, ◌*◌, ◌-◌, ◌/◌, ◌%◌, ◌^◌, ◌<◌, Bool, true, false, List, length, set, get_or, replicate, eqb, w64}
use Rattle.std.specs.Int.{bit_at, from_bool}
use Rattle.std.specs.Int.RustNames.{bit_or}
use Rattle.std.proofs.lemmas.Bool.{eq-eqb, ne_eqb, eqb-true, eqb-false}
use Rattle.std.proofs.lemmas.List.{get_or-set_same, get_or-set_other}
use Rattle.std.proofs.lemmas.Nat.Bits.{bit_at_set_same, bit_at_set_other, bit_at-zero, bit_at-lt, and_pow}
use Rattle.std.proofs.Math.Pow.{shl_exact, pow_pos}
use lib.Bits.{bit_and}
use lib.Dec.{lit<}
use Rattle.le.specs.Choice.{pick}

-- a number's bit: 64 numbers a word
unfoldable pub bit : List ℕ → ℕ → ℕ
bit marks k = bit_at (get_or marks (k / 64) 0) (k % 64)

-- the words with a number's bit set, as the code sets it
unfoldable pub marked : List ℕ → ℕ → List ℕ
marked marks i = set marks (i / 64) (bit_or (get_or marks (i / 64) 0) (1 * 2 ^ (i % 64) % 2 ^ 64))

-- what the code's test of a bit adds
pub unset : (w j : ℕ) → j < 64 → from_bool (eqb (bit_and w (1 * 2 ^ j % 2 ^ 64)) 0) ≡ 1 - bit_at w j
unset w j h =
    let p : 1 * 2 ^ j % 2 ^ 64 ≡ 2 ^ j = shl_exact {a = 1} 1 j 64 (lit< tt) (omega arith) ∙ omega arith in
    rw (p, and_pow w j) (by (bit_at w j) (bit_at-lt w j))
  where
    by : (x : ℕ) → x < 2 → from_bool (eqb (x * 2 ^ j) 0) ≡ 1 - x
    by zero l = rw (eq-eqb (0 * 2 ^ j) 0 (omega arith)) refl
    by (suc zero) l = rw (ne_eqb (1 * 2 ^ j) 0 (λ e. omega (arith, pow_pos j))) refl
    by (suc (suc x)) l = absurd (omega arith)

-- ---- one word

word-bit : (w i j : ℕ) → i < 64 → bit_at (bit_or w (1 * 2 ^ i % 2 ^ 64)) j ≡ pick (eqb i j) 1 (bit_at w j)
unfolding pick
word-bit w i j h = by (eqb i j) refl where
  by : (b : Bool) → eqb i j ≡ b → bit_at (bit_or w (1 * 2 ^ i % 2 ^ 64)) j ≡ pick b 1 (bit_at w j)
  by true e = ap (bit_at (bit_or w (1 * 2 ^ i % 2 ^ 64))) (sym (eqb-true i j e)) ∙ bit_at_set_same w64 w i h
  by false e = bit_at_set_other w64 w i h j (λ q. eqb-false i j e (sym q))

-- ---- all words

-- two numbers in one word are the same where their bits are
same : (i k : ℕ) → i / 64 ≡ k / 64 → eqb (i % 64) (k % 64) ≡ eqb i k
same i k q = by (eqb i k) refl where
  by : (b : Bool) → eqb i k ≡ b → eqb (i % 64) (k % 64) ≡ b
  by true e = eq-eqb (i % 64) (k % 64) (ap (λ (x : ℕ). x % 64) (eqb-true i k e))
  by false e = ne_eqb (i % 64) (k % 64) (λ r. eqb-false i k e (omega arith))

pub bit-marked : (marks : List ℕ) (i k : ℕ) → i / 64 < length marks → bit (marked marks i) k ≡ pick (eqb i k) 1 (bit marks k)
unfolding bit marked pick
bit-marked marks i k h = by (eqb (i / 64) (k / 64)) refl where
  by : (b : Bool) → eqb (i / 64) (k / 64) ≡ b
      → bit_at (get_or (set marks (i / 64) (bit_or (get_or marks (i / 64) 0) (1 * 2 ^ (i % 64) % 2 ^ 64))) (k / 64) 0) (k % 64)
      ≡ pick (eqb i k) 1 (bit_at (get_or marks (k / 64) 0) (k % 64))
  by true e =
      let q : i / 64 ≡ k / 64 = eqb-true (i / 64) (k / 64) e in
      rw (sym q, get_or-set_same marks (i / 64) _ 0 h, sym (same i k q)) (word-bit (get_or marks (i / 64) 0) (i % 64) (k % 64) (omega arith))
  by false e =
      let n : k / 64 ≡ i / 64 → ⊥ = λ q. eqb-false (i / 64) (k / 64) e (sym q) in
      rw (get_or-set_other marks (i / 64) (k / 64) _ 0 n, ne_eqb i k (λ q. n (ap (λ (x : ℕ). x / 64) (sym q)))) refl

zero-at : (n k : ℕ) → get_or {A = ℕ} (replicate n 0) k 0 ≡ 0
zero-at zero k = refl
zero-at (suc n) zero = refl
zero-at (suc n) (suc k) = zero-at n k

pub bit-none : (n k : ℕ) → bit (replicate n 0) k ≡ 0
unfolding bit
bit-none n k = rw (zero-at n (k / 64)) (bit_at-zero (k % 64))
