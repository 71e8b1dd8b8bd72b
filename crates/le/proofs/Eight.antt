-- A number of N bytes as the first N of eight: what the code reads and stores, in the words of the definitions.
-- Assumes nothing.
use Rattle.std.proofs.Common.{◌≡◌, refl, ap, ◌∙◌, arith, length-append, length-drop, ℕ, zero, suc, ◌+◌, ◌*◌, ◌^◌, ◌≤◌, ◌%◌, ◌/◌, List, [], ◌∷◌, ◌++◌, length, take, drop, replicate}
use Rattle.std.specs.Int.{w64, from_le_bytes, to_le_bytes}
use Rattle.le.specs.Number.{value, bytes, field, number}
use Rattle.le.proofs.Laws.{value-append}

-- eight bytes, as the library reads them
eight-value : (l : List ℕ) → length l ≡ 8 → from_le_bytes w64 l ≡ value l
unfolding value
eight-value [] p = absurd (omega (arith, p))
eight-value (a ∷ []) p = absurd (omega (arith, p))
eight-value (a ∷ b ∷ []) p = absurd (omega (arith, p))
eight-value (a ∷ b ∷ c ∷ []) p = absurd (omega (arith, p))
eight-value (a ∷ b ∷ c ∷ d ∷ []) p = absurd (omega (arith, p))
eight-value (a ∷ b ∷ c ∷ d ∷ e ∷ []) p = absurd (omega (arith, p))
eight-value (a ∷ b ∷ c ∷ d ∷ e ∷ f ∷ []) p = absurd (omega (arith, p))
eight-value (a ∷ b ∷ c ∷ d ∷ e ∷ f ∷ g ∷ []) p = absurd (omega (arith, p))
eight-value (a ∷ b ∷ c ∷ d ∷ e ∷ f ∷ g ∷ h ∷ []) p = omega arith
eight-value (a ∷ b ∷ c ∷ d ∷ e ∷ f ∷ g ∷ h ∷ i ∷ l) p = absurd (omega (arith, p))

zeros-left : (n k : ℕ) → value (drop n (replicate k 0)) ≡ 0
unfolding value
zeros-left zero zero = refl
zeros-left zero (suc k) = omega (arith, zeros-left zero k)
zeros-left (suc n) zero = refl
zeros-left (suc n) (suc k) = zeros-left n k

-- the first n of eight bytes, zeros after them
pub eight-read : (n at r : ℕ) (s x : List ℕ) → length x ≡ n → n ≤ 8 → x ≡ field n at s
    → r ≡ from_le_bytes w64 (x ++ drop n (replicate 8 0)) → r ≡ number n at s
unfolding number
eight-read n at r s x e h f q =
    q
    ∙ eight-value (x ++ drop n (replicate 8 0)) (simp (length-append, length-drop) (omega (arith, e)))
    ∙ value-append x (drop n (replicate 8 0))
    ∙ ap (λ (k : ℕ). value x + 256 ^ length x * k) (zeros-left n 8)
    ∙ omega arith
    ∙ ap value f

-- the library's eight bytes are the eight low ones
eight-bytes : (v : ℕ) → to_le_bytes w64 v ≡ bytes 8 v
unfolding bytes
eight-bytes v =
    let a : v / 65536 ≡ v / 256 / 256 = omega arith in
    let b : v / 16777216 ≡ v / 256 / 256 / 256 = omega arith in
    let c : v / 4294967296 ≡ v / 256 / 256 / 256 / 256 = omega arith in
    let d : v / 1099511627776 ≡ v / 256 / 256 / 256 / 256 / 256 = omega arith in
    let e : v / 281474976710656 ≡ v / 256 / 256 / 256 / 256 / 256 / 256 = omega arith in
    let f : v / 72057594037927936 ≡ v / 256 / 256 / 256 / 256 / 256 / 256 / 256 = omega arith in
    rw (a, b, c, d, e, f)

take-bytes : (n k v : ℕ) → n ≤ k → take n (bytes k v) ≡ bytes n v
unfolding bytes
take-bytes zero k v h = refl
take-bytes (suc n) zero v h = absurd (omega (arith, h))
take-bytes (suc n) (suc k) v h = ap (λ (l : List ℕ). v % 256 ∷ l) (take-bytes n k (v / 256) (omega (arith, h)))

pub eight-stored : (n v : ℕ) → n ≤ 8 → take n (to_le_bytes w64 v) ≡ bytes n v
eight-stored n v h = ap (take n) (eight-bytes v) ∙ take-bytes n 8 v h
