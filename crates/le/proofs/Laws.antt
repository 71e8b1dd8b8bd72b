-- The laws of little-endian numbers, each once for every width n: a wide number is a low part and a high part, it is
-- below 256 to the n, what is stored is read back, and a store changes nothing beside its n bytes.
-- Assumes nothing.
use mathlib.Core.Path.{◌≡◌, refl, sym, ap, ap₂, ◌∙◌, subst}
use mathlib.Core.List.{List, [], ◌∷◌, ◌++◌, append_assoc}
use mathlib.Core.Logic.{◌⊎◌, inl, inr}
use Prim.Native.Nat.{ℕ, zero, suc, ◌+◌, ◌*◌, ◌/◌, ◌^◌, ◌≤◌, ◌<◌}
use native.Mathlib.Nat.{pow-zero, pow-suc, pow-succ', mul_assoc, add-suc, suc-add, add-zero, zero-add, div-add-mod, mod-lt, div-lt_iff_lt-mul, div-div-eq-div-mul, div-one}
use native.Mathlib.Omega.{arith}
use lib.ListN.{length, set, take, drop, get_or, length-drop, take-append-drop}
use lib.Seq.{take-add, drop-drop, drop-cons, sets, sets-eq, length-sets, take_at, drop_at, length-take-le, get_or-drop, drop-set-lt, take-set-le}
use lib.Dec.{lit<}
use Rattle.le.specs.Number.{Bytes, value, bytes, field, number, stored}

-- ---- lists

pub field-length : (n at : ℕ) (s : List ℕ) → at + n ≤ length s → length (field n at s) ≡ n
unfolding field
field-length n at s h = length-take-le n (drop at s) (simp length-drop (omega arith))

pub bytes-length : (n v : ℕ) → length (bytes n v) ≡ n
unfolding bytes
bytes-length zero v = refl
bytes-length (suc n) v = ap suc (bytes-length n (v / 256))

pub stored-length : (n at v : ℕ) (s : List ℕ) → length (stored n at v s) ≡ length s
unfolding stored
stored-length n at v s = length-sets s at (bytes n v)

pub value-append : (a b : List ℕ) → value (a ++ b) ≡ value a + 256 ^ length a * value b
unfolding value
value-append [] b = omega (arith, pow-zero 256)
value-append (x ∷ a) b =
    let e : 256 ^ suc (length a) * value b ≡ 256 * (256 ^ length a * value b) =
    ap (λ (k : ℕ). k * value b) (pow-succ' 256 (length a)) ∙ mul_assoc 256 (256 ^ length a) (value b) in
    omega (arith, e, value-append a b)

-- ---- a number is a low part and a high part

pub number-split : (n m at : ℕ) (s : List ℕ) → at + n ≤ length s
    → number (n + m) at s ≡ number n at s + 256 ^ n * number m (at + n) s
unfolding number field
number-split n m at s h =
    ap value (take-add n m (drop at s))
    ∙ value-append (take n (drop at s)) (take m (drop n (drop at s)))
    ∙ ap₂ (λ (k : ℕ) (l : List ℕ). value (take n (drop at s)) + 256 ^ k * value (take m l))
    (length-take-le n (drop at s) (simp length-drop (omega arith)))
    (drop-drop n at s)

-- the byte at a place is the number there of width 1
pub number-one : (at : ℕ) (s : List ℕ) → at < length s → number 1 at s ≡ get_or s at 0
unfolding number field value
number-one at s h = rw (drop-cons s at 0) (omega arith)

-- ---- the bound

value-bound : (n : ℕ) (l : List ℕ) → ((i : ℕ) → get_or l i 0 < 256) → value (take n l) < 256 ^ n
unfolding value
value-bound zero l h = omega (arith, pow-zero 256)
value-bound (suc n) [] h = omega (arith, pow-succ' 256 n, value-bound n [] (λ i. lit< tt))
value-bound (suc n) (x ∷ l) h = omega (arith, h 0, pow-succ' 256 n, value-bound n l (λ i. h (suc i)))

pub Bytes-drop : (n : ℕ) (s : List ℕ) → Bytes s → Bytes (drop n s)
unfolding Bytes
Bytes-drop n s b i = subst (λ (k : ℕ). k < 256) (sym (get_or-drop n s i 0)) (b (n + i))

pub number_bound : (n at : ℕ) (s : List ℕ) → Bytes s → number n at s < 256 ^ n
unfolding number field Bytes
number_bound n at s b = value-bound n (drop at s) (Bytes-drop at s b)

-- ---- stores

pub bytes-append : (n m v : ℕ) → bytes (n + m) v ≡ bytes n v ++ bytes m (v / 256 ^ n)
unfolding bytes
bytes-append zero m v = rw (zero-add, pow-zero, div-one)
bytes-append (suc n) m v =
    rw (suc-add, pow-succ' 256 n, ← (div-div-eq-div-mul v 256 (256 ^ n)), bytes-append n m (v / 256))

pub sets-append : (xs ys s : List ℕ) (at : ℕ) → sets s at (xs ++ ys) ≡ sets (sets s at xs) (at + length xs) ys
sets-append [] ys s at = rw add-zero
sets-append (x ∷ xs) ys s at = rw (add-suc, ← (suc-add at (length xs))) (sets-append xs ys (set s at x) (suc at))

pub stored-split : (n m at v : ℕ) (s : List ℕ) → stored (n + m) at v s ≡ stored m (at + n) (v / 256 ^ n) (stored n at v s)
unfolding stored
stored-split n m at v s =
    ap (λ (l : List ℕ). sets s at l) (bytes-append n m v)
    ∙ sets-append (bytes n v) (bytes m (v / 256 ^ n)) s at
    ∙ ap (λ (k : ℕ). sets (sets s at (bytes n v)) (at + k) (bytes m (v / 256 ^ n))) (bytes-length n v)

pub value-bytes : (n v : ℕ) → v < 256 ^ n → value (bytes n v) ≡ v
unfolding value bytes
value-bytes zero v h = omega (arith, pow-zero 256)
value-bytes (suc n) v h =
    omega (arith, div-add-mod v 256, value-bytes n (v / 256) ((div-lt_iff_lt-mul {k = 256} (lit< tt)).1 (rw (← (pow-suc 256 n)) h)))

-- a run of bytes stored at a place stands there
field-sets : (at : ℕ) (bs s : List ℕ) → at + length bs ≤ length s → field (length bs) at (sets s at bs) ≡ bs
unfolding field
field-sets at bs s h =
    rw (sets-eq bs s at, append_assoc)
    (ap (take (length bs)) (drop_at (take at s) (bs ++ drop (at + length bs) s) at (length-take-le at s (omega arith)))
    ∙ take_at bs (drop (at + length bs) s) (length bs) refl)

-- a part of a list in which a run was put
pub part-set : (s z bs : List ℕ) (at k : ℕ) → z ≡ bs → k ≡ length bs → at + k ≤ length s
    → take at s ++ (z ++ drop k (drop at s)) ≡ sets s at bs
part-set s z bs at k e h f =
    ap₂ (λ (a b : List ℕ). take at s ++ (a ++ b)) e (drop-drop k at s ∙ ap (λ (m : ℕ). drop (at + m) s) h)
    ∙ sym (append_assoc (take at s) bs (drop (at + length bs) s))
    ∙ sym (sets-eq bs s at (omega arith))

-- a run that starts with a number is stored as that number, and then the rest
pub stored-then : (n at v : ℕ) (ys s : List ℕ) → sets s at (bytes n v ++ ys) ≡ sets (stored n at v s) (at + n) ys
unfolding stored
stored-then n at v ys s =
    sets-append (bytes n v) ys s at
    ∙ ap (λ (k : ℕ). sets (sets s at (bytes n v)) (at + k) ys) (bytes-length n v)

-- what is stored is read back
pub number-stored : (n at v : ℕ) (s : List ℕ) → v < 256 ^ n → at + n ≤ length s → number n at (stored n at v s) ≡ v
unfolding number stored
number-stored n at v s h k =
    ap value
    (subst (λ (m : ℕ). field m at (sets s at (bytes n v)) ≡ bytes n v) (bytes-length n v)
    (field-sets at (bytes n v) s (omega (arith, bytes-length n v))))
    ∙ value-bytes n v h

-- a store changes no field that ends before it or starts after it
take_set_before : (m b : ℕ) (s : List ℕ) (at x : ℕ) → b + m ≤ at → field m b (set s at x) ≡ field m b s
unfolding field
take_set_before m zero s at x h = take-set-le m s at x (omega arith)
take_set_before m (suc b) [] at x h = refl
take_set_before m (suc b) (y ∷ s) zero x h = absurd (omega arith)
take_set_before m (suc b) (y ∷ s) (suc at) x h = take_set_before m b s at x (omega arith)

field-sets-before : (m b at : ℕ) (bs s : List ℕ) → b + m ≤ at → field m b (sets s at bs) ≡ field m b s
field-sets-before m b at [] s h = refl
field-sets-before m b at (x ∷ bs) s h = field-sets-before m b (suc at) bs (set s at x) (omega arith) ∙ take_set_before m b s at x h

field-sets-after : (m b at : ℕ) (bs s : List ℕ) → at + length bs ≤ b → field m b (sets s at bs) ≡ field m b s
unfolding field
field-sets-after m b at [] s h = refl
field-sets-after m b at (x ∷ bs) s h =
    field-sets-after m b (suc at) bs (set s at x) (omega arith)
    ∙ ap (take m) (drop-set-lt b s at x (omega arith))

pub field_stored : (m b n at v : ℕ) (s : List ℕ) → (b + m ≤ at) ⊎ (at + n ≤ b) → field m b (stored n at v s) ≡ field m b s
unfolding stored
field_stored m b n at v s (inl h) = field-sets-before m b at (bytes n v) s h
field_stored m b n at v s (inr h) = field-sets-after m b at (bytes n v) s (omega (arith, bytes-length n v))

-- two files that agree on a field agree on its number
pub number-frame : (n b : ℕ) (s t : List ℕ) → field n b s ≡ field n b t → number n b s ≡ number n b t
unfolding number
number-frame n b s t e = ap value e

-- ---- the bytes of a number that was read are the bytes that were there

bytes-value : (n : ℕ) (l : List ℕ) → ((i : ℕ) → get_or l i 0 < 256) → n ≤ length l → bytes n (value (take n l)) ≡ take n l
unfolding bytes value
bytes-value zero l b h = refl
bytes-value (suc n) [] b h = absurd (omega arith)
bytes-value (suc n) (x ∷ l) b h =
    ap₂ (λ (y : ℕ) (ys : List ℕ). y ∷ ys)
    (omega (arith, b 0))
    (ap (bytes n) (omega (arith, b 0)) ∙ bytes-value n l (λ i. b (suc i)) (omega arith))

pub bytes-number : (n at : ℕ) (s : List ℕ) → Bytes s → at + n ≤ length s → bytes n (number n at s) ≡ field n at s
unfolding number field Bytes
bytes-number n at s b h = bytes-value n (drop at s) (Bytes-drop at s b) (simp length-drop (omega arith))

-- what stands from a place on is the field there, and what stands after it
pub field-then : (n at : ℕ) (s : List ℕ) → drop at s ≡ field n at s ++ drop (at + n) s
unfolding field
field-then n at s =
    sym (take-append-drop n (drop at s)) ∙ ap (λ (l : List ℕ). take n (drop at s) ++ l) (drop-drop n at s)

-- where it is bytes, the number there, and what stands after it
pub number-then : (n at : ℕ) (s : List ℕ) → Bytes s → at + n ≤ length s
    → drop at s ≡ bytes n (number n at s) ++ drop (at + n) s
number-then n at s b h =
    field-then n at s ∙ ap (λ (l : List ℕ). l ++ drop (at + n) s) (sym (bytes-number n at s b h))

-- ---- runs of bytes

pub Bytes-bytes : (n v : ℕ) → Bytes (bytes n v)
unfolding Bytes bytes
Bytes-bytes zero v i = lit< tt
Bytes-bytes (suc n) v zero = mod-lt v (lit< tt)
Bytes-bytes (suc n) v (suc i) = Bytes-bytes n (v / 256) i

pub Bytes-append : (a b : List ℕ) → Bytes a → Bytes b → Bytes (a ++ b)
unfolding Bytes
Bytes-append [] b ha hb i = hb i
Bytes-append (x ∷ a) b ha hb zero = ha 0
Bytes-append (x ∷ a) b ha hb (suc i) = Bytes-append a b (λ j. ha (suc j)) hb i

-- ---- what stands at a place, where the list from there on is known

pub number_at : (n at v : ℕ) (s ys : List ℕ) → v < 256 ^ n → drop at s ≡ bytes n v ++ ys → number n at s ≡ v
unfolding number field
number_at n at v s ys h e =
    ap (λ (l : List ℕ). value (take n l)) e ∙ ap value (take_at (bytes n v) ys n (bytes-length n v)) ∙ value-bytes n v h

pub drop_past : (n at : ℕ) (s xs ys : List ℕ) → length xs ≡ n → drop at s ≡ xs ++ ys → drop (at + n) s ≡ ys
drop_past n at s xs ys h e = sym (drop-drop n at s) ∙ ap (drop n) e ∙ drop_at xs ys n h

pub field_at : (n at : ℕ) (s xs ys : List ℕ) → length xs ≡ n → drop at s ≡ xs ++ ys → field n at s ≡ xs
unfolding field
field_at n at s xs ys h e = ap (take n) e ∙ take_at xs ys n h
