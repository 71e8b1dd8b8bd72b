-- ds64 as bytes: the numbers and entries read of a list of bytes are those whose bytes stand there, and the other way round.
-- Assumes nothing.
use mathlib.Core.Path.{◌≡◌, refl, sym, ap, ap₂, ◌∙◌, subst}
use mathlib.Core.Logic.{◌⊎◌, inl, inr}
use mathlib.Core.List.Memᴰ
use mathlib.Core.List.{List, [], ◌∷◌, ◌++◌, append_assoc, Memᴰ}
use Prim.Native.Nat.{ℕ, zero, suc, ◌+◌, ◌-◌, ◌*◌, ◌^◌, ◌≤◌, ◌<◌}
use native.Mathlib.Omega.{arith}
use lib.ListN.{length, take, drop, length-append, length-drop}
use lib.Seq.{drop-drop, take-append-add}
use Rattle.le.specs.Number.{Bytes, bytes, field, number}
use Rattle.le.proofs.Laws.{bytes-length, number_at, drop_past, number-then, number_bound, Bytes-drop}
use Rattle.form.specs.declared.Ds64.{Ds64}
use Rattle.form.specs.Forms.{ds64_at}
use Rattle.truesize.specs.Sizes.{Ds64Entry, entries_in}
use Rattle.wave.specs.Grammar.{entries_bytes, ds64_bytes}

-- ---- entries as bytes

abbrev pub Fit : List Ds64Entry → Type 0
Fit ks = (k : Ds64Entry) → Memᴰ k ks → (k.name < 256 ^ 4) × (k.size < 256 ^ 8)

entries-length : (ks : List Ds64Entry) → length (entries_bytes ks) ≡ 12 * length ks
unfolding entries_bytes
entries-length [] = refl
entries-length (k ∷ ks) =
    omega (
      arith,
      length-append (bytes 4 k.name) (bytes 8 k.size ++ entries_bytes ks),
      length-append (bytes 8 k.size) (entries_bytes ks),
      bytes-length 4 k.name,
      bytes-length 8 k.size,
      entries-length ks,
    )

pub ds64-length : (d : Ds64) (ks : List Ds64Entry) → length (ds64_bytes d ks) ≡ 28 + 12 * length ks
unfolding ds64_bytes
ds64-length d ks =
    let es : List ℕ = entries_bytes ks in
    omega (
      arith,
      length-append (bytes 8 d.form_size) (bytes 8 d.data_size ++ (bytes 8 d.third ++ (bytes 4 d.count ++ es))),
      length-append (bytes 8 d.data_size) (bytes 8 d.third ++ (bytes 4 d.count ++ es)),
      length-append (bytes 8 d.third) (bytes 4 d.count ++ es),
      length-append (bytes 4 d.count) es,
      bytes-length 8 d.form_size,
      bytes-length 8 d.data_size,
      bytes-length 8 d.third,
      bytes-length 4 d.count,
      entries-length ks,
    )

-- the entries read are the entries written
entries-read : (ks : List Ds64Entry) (more : List ℕ) → Fit ks → entries_in (length ks) (entries_bytes ks ++ more) ≡ ks
unfolding entries_in entries_bytes
entries-read [] more f = refl
entries-read (k ∷ ks) more f =
    let s : List ℕ = entries_bytes (k ∷ ks) ++ more in
    let rest : List ℕ = entries_bytes ks ++ more in
    let b = f k (Memᴰ.head refl) in
    let e₀ : drop 0 s ≡ bytes 4 k.name ++ (bytes 8 k.size ++ rest) = simp append_assoc in
    let e₄ : drop 4 s ≡ bytes 8 k.size ++ rest = drop_past 4 0 s (bytes 4 k.name) _ (bytes-length 4 k.name) e₀ in
    let e₁₂ : drop 12 s ≡ rest = drop_past 8 4 s (bytes 8 k.size) rest (bytes-length 8 k.size) e₄ in
    ap₂ (λ (x : Ds64Entry) (xs : List Ds64Entry). x ∷ xs)
    (λ i. record { name = number_at 4 0 k.name s _ b.0 e₀ i; size = number_at 8 4 k.size s rest b.1 e₄ i })
    (ap (entries_in (length ks)) e₁₂ ∙ entries-read ks more (λ x m. f x (Memᴰ.tail m)))

-- so the numbers and entries read at byte 20 are those written there
pub ds64-read : (s : List ℕ) (d : Ds64) (ks : List Ds64Entry) (more : List ℕ)
    → (d.form_size < 256 ^ 8) × (d.data_size < 256 ^ 8) × (d.third < 256 ^ 8) → d.count < 256 ^ 4 → Fit ks
    → drop 20 s ≡ ds64_bytes d ks ++ more → (ds64_at s ≡ d) × (entries_in (length ks) (drop 48 s) ≡ ks)
unfolding ds64_bytes ds64_at
ds64-read s d ks more b c f e =
    let t₃ : List ℕ = bytes 4 d.count ++ (entries_bytes ks ++ more) in
    let t₂ : List ℕ = bytes 8 d.third ++ t₃ in
    let t₁ : List ℕ = bytes 8 d.data_size ++ t₂ in
    let e₂₀ : drop 20 s ≡ bytes 8 d.form_size ++ t₁ = e ∙ simp append_assoc in
    let e₂₈ : drop 28 s ≡ t₁ = drop_past 8 20 s (bytes 8 d.form_size) t₁ (bytes-length 8 d.form_size) e₂₀ in
    let e₃₆ : drop 36 s ≡ t₂ = drop_past 8 28 s (bytes 8 d.data_size) t₂ (bytes-length 8 d.data_size) e₂₈ in
    let e₄₄ : drop 44 s ≡ t₃ = drop_past 8 36 s (bytes 8 d.third) t₃ (bytes-length 8 d.third) e₃₆ in
    let e₄₈ : drop 48 s ≡ entries_bytes ks ++ more = drop_past 4 44 s (bytes 4 d.count) _ (bytes-length 4 d.count) e₄₄ in
    let n₀ = number_at 8 20 d.form_size s t₁ b.0 e₂₀ in
    let n₁ = number_at 8 28 d.data_size s t₂ b.1 e₂₈ in
    let n₂ = number_at 8 36 d.third s t₃ b.2 e₃₆ in
    let n₃ = number_at 4 44 d.count s _ c e₄₄ in (
      λ i. record { form_size = n₀ i; data_size = n₁ i; third = n₂ i; count = n₃ i },
      ap (entries_in (length ks)) e₄₈ ∙ entries-read ks more f,
    )

pub entries-count : (n : ℕ) (s : List ℕ) → length (entries_in n s) ≡ n
unfolding entries_in
entries-count zero s = refl
entries-count (suc n) s = ap suc (entries-count n (drop 12 s))

pub entries_fit : (n : ℕ) (s : List ℕ) → Bytes s → Fit (entries_in n s)
unfolding entries_in
entries_fit zero s b k m = absurd (Memᴰ.not-nil m)
entries_fit (suc n) s b k m = go (entries_fit n (drop 12 s) (Bytes-drop 12 s b) k) (Memᴰ.cases_cons m)
  where
    first : Ds64Entry
    first = record { name = number 4 0 s; size = number 8 4 s }

    go : (Memᴰ k (entries_in n (drop 12 s)) → (k.name < 256 ^ 4) × (k.size < 256 ^ 8))
        → (k ≡ first) ⊎ Memᴰ k (entries_in n (drop 12 s)) → (k.name < 256 ^ 4) × (k.size < 256 ^ 8)
    go below (inl p) =
        subst (λ (x : Ds64Entry). (x.name < 256 ^ 4) × (x.size < 256 ^ 8)) (sym p) (number_bound 4 0 s b, number_bound 8 4 s b)
    go below (inr j) = below j

-- the bytes of the entries read are the bytes that were there
entries-bytes : (n : ℕ) (s : List ℕ) → Bytes s → 12 * n ≤ length s → s ≡ entries_bytes (entries_in n s) ++ drop (12 * n) s
unfolding entries_in entries_bytes
entries-bytes zero s b h = refl
entries-bytes (suc n) s b h =
    let es : List Ds64Entry = entries_in n (drop 12 s) in
    let twelve : 12 + 12 * n ≡ 12 * suc n = omega arith in
    number-then 4 0 s b (omega arith)
    ∙ ap (λ (l : List ℕ). bytes 4 (number 4 0 s) ++ l)
    (number-then 8 4 s b (omega arith)
    ∙ ap (λ (l : List ℕ). bytes 8 (number 8 4 s) ++ l)
    (entries-bytes n (drop 12 s) (Bytes-drop 12 s b) (omega (arith, length-drop 12 s))
    ∙ ap (λ (l : List ℕ). entries_bytes es ++ l) (drop-drop (12 * n) 12 s ∙ ap (λ (k : ℕ). drop k s) twelve)))
    ∙ simp append_assoc

-- so a payload at byte 20 that is long enough is the bytes of the numbers and entries in it, and then others
pub ds64-bytes : (size : ℕ) (s : List ℕ) → Bytes s → 28 + 12 * number 4 44 s ≤ size → 20 + size ≤ length s
    → (more : List ℕ) × (field size 20 s ≡ ds64_bytes (ds64_at s) (entries_in (number 4 44 s) (drop 48 s)) ++ more)
unfolding ds64_bytes ds64_at field
ds64-bytes size s b h k =
    let n : ℕ = number 4 44 s in
    let t : List ℕ = drop 48 s in
    let all : List ℕ = ds64_bytes (ds64_at s) (entries_in n t) in
    let long : length all ≡ 28 + 12 * n =
    ds64-length (ds64_at s) (entries_in n t) ∙ ap (λ (j : ℕ). 28 + 12 * j) (entries-count n t) in
    let is : drop 20 s ≡ all ++ drop (12 * n) t =
    number-then 8 20 s b (omega arith)
    ∙ ap (λ (l : List ℕ). bytes 8 (number 8 20 s) ++ l)
    (number-then 8 28 s b (omega arith)
    ∙ ap (λ (l : List ℕ). bytes 8 (number 8 28 s) ++ l)
    (number-then 8 36 s b (omega arith)
    ∙ ap (λ (l : List ℕ). bytes 8 (number 8 36 s) ++ l)
    (number-then 4 44 s b (omega arith)
    ∙ ap (λ (l : List ℕ). bytes 4 n ++ l) (entries-bytes n t (Bytes-drop 48 s b) (omega (arith, length-drop 48 s))))))
    ∙ simp append_assoc in
    let rest : size ≡ length all + (size - length all) = omega (arith, long) in (
      take (size - length all) (drop (12 * n) t),
      ap₂ take rest is ∙ take-append-add all (drop (12 * n) t) (size - length all),
    )
