-- The laws of the rules of fmt: what follows where a rule holds.
-- Assumes nothing.
use mathlib.Core.Path.{◌≡◌, refl, sym, ap, ◌∙◌, subst}
use mathlib.Core.Bool.{Bool, true, false, ◌&&◌, ◌||◌}
use mathlib.Core.List.{List, [], ◌∷◌, ◌++◌}
use mathlib.Core.Logic.{◌⊎◌, inl, inr, ⊎_elim}
use Prim.Native.Nat.{ℕ, ◌*◌, ◌/◌, ◌≤◌, ◌<◌}
use native.Mathlib.Nat.{mul-le-mul}
use native.Mathlib.Omega.{arith}
use lib.ListN.{length}
use lib.Dec.{eqb, ltb, leb, lit<}
use borrow.Author.Tests.{eqb-true, ne_eqb, ltb-true, leb-true, lt-ltb}
use Rattle.le.specs.Number.{Bytes, bytes, number}
use Rattle.le.specs.Choice.{pick, every}
use Rattle.le.proofs.Laws.{number_bound}
use Rattle.chunk.specs.declared.Refusal.{Refusal}
use Rattle.chunk.specs.declared.Refusal.TheVariants.{BadFmt}
use Rattle.chunk.specs.Refusals.{Answer, Err, Ok, check}
use Rattle.chunk.proofs.Checks.{true-false, check-given, check-refused, given-inj, refused-given, picked}
use Rattle.fmt.specs.declared.Format.{Format}
use Rattle.fmt.specs.Formats.{PCM, EXTENSIBLE, SUBFORMAT-LOW, SUBFORMAT-HIGH, size_good, bits_good, samples_good, valid_bits, valid_good, record_good, record_in, extra_good, format_in}
use Rattle.fmt.specs.Code.{rest_good}
use Rattle.fmt.specs.Writing.{extra_bytes, fields_fit}

-- ---- rules

-- the last rule of a list
pub last : (b : Bool) → b ≡ pick b true false
unfolding pick
last true = refl
last false = refl

-- the rules of a list, one by one
abbrev pub All : List Bool → Type 0
All [] = Unit
All (b ∷ bs) = (b ≡ true) × All bs

pub all : (bs : List Bool) → every bs ≡ true → All bs
unfolding every
all [] h = tt
all (true ∷ bs) h = (refl, all bs h)
all (false ∷ bs) h = absurd (true-false false h refl)

pub every_of : (bs : List Bool) → All bs → every bs ≡ true
unfolding every
every_of [] a = refl
every_of (b ∷ bs) a = rw a.0 (every_of bs a.1)

-- one of two rules holds
either : {A : Type 0} (a b : Bool) → (a || b) ≡ true → (a ≡ true → A) → (b ≡ true → A) → A
either true b h f g = f refl
either false b h f g = g h

-- ---- bits and sizes

pub bits_range : (b : ℕ) → bits_good b ≡ true → (8 ≤ b) × (b ≤ 32)
unfolding bits_good
bits_range b h =
    either (eqb b 8 || eqb b 16 || eqb b 24) (eqb b 32) h
    (λ h₃. either (eqb b 8 || eqb b 16) (eqb b 24) h₃
    (λ h₂. either (eqb b 8) (eqb b 16) h₂ (λ e. omega (arith, eqb-true)) (λ e. omega (arith, eqb-true)))
    (λ e. omega (arith, eqb-true)))
    (λ e. omega (arith, eqb-true))

-- a payload below 16 bytes goes with no tag
pub size-short : (t s : ℕ) → s < 16 → size_good t s ≡ false
unfolding size_good
size-short t s h = rw (ne_eqb s 16 (omega arith), ne_eqb s 18 (omega arith), ne_eqb s 40 (omega arith)) (cases (eqb t 1) (eqb t 65534))
  where
    cases : (a b : Bool) → pick a (false || false) (pick b false false) ≡ false
    cases true b = refl
    cases false true = refl
    cases false false = refl

-- a record's size, by its tag
pub size-cases : (t s : ℕ) → size_good t s ≡ true → (s ≡ 16) ⊎ ((s ≡ 18) ⊎ (s ≡ 40))
unfolding size_good
size-cases t s = cases (eqb t PCM) (eqb t EXTENSIBLE)
  where
    cases : (a b : Bool) → pick a (eqb s 16 || eqb s 18) (pick b (eqb s 40) false) ≡ true → (s ≡ 16) ⊎ ((s ≡ 18) ⊎ (s ≡ 40))
    cases true b h = either (eqb s 16) (eqb s 18) h (λ e. inl (eqb-true _ _ e)) (λ e. inr (inl (eqb-true _ _ e)))
    cases false true h = inr (inr (eqb-true _ _ h))
    cases false false h = absurd (true-false false h refl)

-- a tag that goes with a size fits its bytes
pub tag_fits : (t s : ℕ) → size_good t s ≡ true → t < 65536
unfolding size_good
tag_fits t s = cases (eqb t PCM) refl (eqb t EXTENSIBLE) refl
  where
    cases : (a : Bool) → eqb t PCM ≡ a → (b : Bool) → eqb t EXTENSIBLE ≡ b
        → pick a (eqb s 16 || eqb s 18) (pick b (eqb s 40) false) ≡ true → t < 65536
    cases true e b e' h = omega (arith, eqb-true)
    cases false e true e' h = omega (arith, eqb-true)
    cases false e false e' h = absurd (true-false false h refl)

-- valid bits and mask, by the size
pub valid-40 : (s w v m : ℕ) → valid_good s w v m ≡ true → s ≡ 40 → (1 ≤ v) × (v ≤ w)
unfolding valid_good
valid-40 s w v m h e =
    let k = all (leb 1 v ∷ leb v w ∷ []) (rw e at h) in
    (leb-true _ _ k.0, leb-true _ _ k.1.0)

pub valid-none : (s w v m : ℕ) → valid_good s w v m ≡ true → (s ≡ 40 → ⊥) → (v ≡ 0) × (m ≡ 0)
unfolding valid_good
valid-none s w v m h e =
    let k = all (eqb v 0 ∷ eqb m 0 ∷ []) (rw (ne_eqb s 40 e) at h) in
    (eqb-true _ _ k.0, eqb-true _ _ k.1.0)

-- the rules of a good record
pub record Good (f : Format) : Type 0 where
  pub size : size_good f.tag f.size ≡ true
  pub samples : samples_good f.channels f.rate f.block f.bits ≡ true
  pub valid : valid_good f.size f.bits f.valid f.mask ≡ true

pub good : (f : Format) → record_good f ≡ true → Good f
unfolding record_good
good f h =
    let k =
    all
    (size_good f.tag f.size
    ∷ samples_good f.channels f.rate f.block f.bits
    ∷ valid_good f.size f.bits f.valid f.mask
    ∷ [])
    h in
    record { size = k.0; samples = k.1.0; valid = k.1.1.0 }

-- ---- the record of a payload

-- a number that stands only in 40 bytes
pub of40 : List ℕ → ℕ → ℕ → ℕ
unfolding pick
of40 p n at = pick (eqb (length p) 40) (number n at p) 0

pub present : (p : List ℕ) (n at : ℕ) {v : ℕ} → length p ≡ 40 → v ≡ number n at p → v ≡ of40 p n at
unfolding of40
present p n at l e = rw l e

pub absent : (p : List ℕ) (n at : ℕ) {v : ℕ} → (length p ≡ 40 → ⊥) → v ≡ 0 → v ≡ of40 p n at
unfolding of40
absent p n at l e = rw (ne_eqb _ _ l) e

pub gathered : (p : List ℕ) (f : Format) → f.size ≡ length p → f.tag ≡ number 2 0 p → f.channels ≡ number 2 2 p
    → f.rate ≡ number 4 4 p → f.byterate ≡ number 4 8 p → f.block ≡ number 2 12 p → f.bits ≡ number 2 14 p
    → f.valid ≡ of40 p 2 18 → f.mask ≡ of40 p 4 20 → f ≡ record_in p
unfolding record_in of40
gathered p f e₀ e₁ e₂ e₃ e₄ e₅ e₆ e₇ e₈ = joined e₀ e₁ e₂ e₃ e₄ e₅ e₆ e₇ e₈
  where
    joined : {s s' t t' n n' r r' y y' b b' w w' v v' m m' : ℕ}
        → s ≡ s' → t ≡ t' → n ≡ n' → r ≡ r' → y ≡ y' → b ≡ b' → w ≡ w' → v ≡ v' → m ≡ m'
        → ◌≡◌ {A = Format}
        (record { size = s; tag = t; channels = n; rate = r; byterate = y; block = b; bits = w; valid = v; mask = m })
        (record { size = s'; tag = t'; channels = n'; rate = r'; byterate = y'; block = b'; bits = w'; valid = v'; mask = m' })
    joined e₀ e₁ e₂ e₃ e₄ e₅ e₆ e₇ e₈ = cc

-- ---- payloads

pub accepted : (p : List ℕ) → extra_good p ≡ true → record_good (record_in p) ≡ true → format_in p ≡ Ok (record_in p)
unfolding format_in
accepted p e r = simp (e, r)

-- ---- a payload's record, rule by rule

-- of 16 bytes nothing is left to judge
pub rest-16 : (p : List ℕ) → length p ≡ 16 → rest_good p (record_in p) ≡ true
unfolding rest_good extra_good valid_good record_in
rest-16 p e = rw e

pub rest-18 : (p : List ℕ) → length p ≡ 18 → eqb (number 2 16 p) 0 ≡ rest_good p (record_in p)
unfolding rest_good extra_good valid_good record_in
rest-18 p e = rw e (last _)

pub rest-40 : (p : List ℕ) (f : Format) → length p ≡ 40 → f.size ≡ 40
    → rest_good p f
    ≡ eqb (number 2 16 p) 22 && eqb (number 8 24 p) SUBFORMAT-LOW && eqb (number 8 32 p) SUBFORMAT-HIGH && valid_bits f.bits f.valid
unfolding rest_good extra_good valid_good every pick
rest-40 p f long size =
    simp (long, size) (joined (eqb (number 2 16 p) 22) (eqb (number 8 24 p) SUBFORMAT-LOW) (eqb (number 8 32 p) SUBFORMAT-HIGH) (valid_bits f.bits f.valid))
  where
    joined : (a b c v : Bool) → pick (pick a (pick b (pick c true false) false) false) (pick v true false) false ≡ a && b && c && v
    joined false b c v = refl
    joined true false c v = refl
    joined true true false v = refl
    joined true true true false = refl
    joined true true true true = refl

-- the rules in the order in which the code asks: a payload of 16 bytes keeps the rest
pub by_rules : (p : List ℕ) (f : Format) → f ≡ record_in p
    → format_in p
    ≡ check (size_good f.tag f.size && samples_good f.channels f.rate f.block f.bits && (eqb f.size 16 || rest_good p f)) BadFmt (Ok f)
unfolding format_in check record_in record_good rest_good every pick
by_rules p f is =
    rw is
    (joined (Ok (record_in p)) (extra_good p) (size_good (record_in p).tag (length p)) (samples_good (record_in p).channels (record_in p).rate (record_in p).block (record_in p).bits)
    (valid_good (length p) (record_in p).bits (record_in p).valid (record_in p).mask) (eqb (length p) 16) (λ h. rest-16 p (eqb-true _ _ h)))
  where
    joined : (k : Answer Format) (extra sized sampled valid short : Bool) → (short ≡ true → pick extra (pick valid true false) false ≡ true)
        → pick extra (pick (pick sized (pick sampled (pick valid true false) false) false) k (Err BadFmt)) (Err BadFmt)
        ≡ pick (sized && sampled && (short || pick extra (pick valid true false) false)) k (Err BadFmt)
    joined k true false c v s h = refl
    joined k true true false v s h = refl
    joined k true true true true false h = refl
    joined k true true true true true h = refl
    joined k true true true false false h = refl
    joined k true true true false true h = absurd (true-false false (h refl) refl)
    joined k false false c v s h = refl
    joined k false true false v s h = refl
    joined k false true true v false h = refl
    joined k false true true v true h = absurd (true-false false (h refl) refl)

-- there is no other refusal
pub only-bad : (p : List ℕ) (r : Refusal) → format_in p ≡ Err r → r ≡ BadFmt
only-bad p r e =
    ⊎_elim (λ q. q) (λ q. absurd (refused-given r (record_in p) (sym q)))
    (check-refused _ BadFmt (Ok (record_in p)) r (sym (by_rules p (record_in p) refl) ∙ e))

pub short : (p : List ℕ) → length p < 16 → format_in p ≡ Err BadFmt
unfolding record_in check pick
short p h = by_rules p (record_in p) refl ∙ rw (size-short (record_in p).tag (length p) h) refl

-- ---- what callers use of an accepted payload

-- the inversion of format_in
pub record Holds (p : List ℕ) (f : Format) : Type 0 where
  pub is : f ≡ record_in p
  pub extra : extra_good p ≡ true
  pub rules : record_good f ≡ true

pub format-given : (p : List ℕ) (f : Format) → format_in p ≡ Ok f → Holds p f
unfolding format_in
format-given p f h =
    let k = check-given (extra_good p) BadFmt (check (record_good (record_in p)) BadFmt (Ok (record_in p))) f h in
    let l = check-given (record_good (record_in p)) BadFmt (Ok (record_in p)) f k.1 in
    let e = given-inj (record_in p) f l.1 in
    record { is = sym e; extra = k.0; rules = ap record_good (sym e) ∙ l.0 }

pub given-format : (p : List ℕ) (f : Format) → Holds p f → format_in p ≡ Ok f
given-format p f h =
    accepted p h.extra (ap record_good (sym h.is) ∙ h.rules) ∙ ap Ok (sym h.is)

-- the rules of the samples
pub record Samples (channels rate block bits : ℕ) : Type 0 where
  pub channels_least : 1 ≤ channels
  pub rate_least : 1 ≤ rate
  pub bits_good : bits_good bits ≡ true
  pub block_is : block ≡ channels * bits / 8

pub samples : (n r b w : ℕ) → samples_good n r b w ≡ true → Samples n r b w
unfolding samples_good
samples n r b w h =
    let k = all (leb 1 n ∷ leb 1 r ∷ bits_good w ∷ eqb b (n * w / 8) ∷ []) h in
    record {
      channels_least = leb-true _ _ k.0;
      rate_least = leb-true _ _ k.1.0;
      bits_good = k.1.1.0;
      block_is = eqb-true _ _ k.1.1.1.0;
    }

-- a block is at least one byte
pub block-least : (p : List ℕ) (f : Format) → format_in p ≡ Ok f → 1 ≤ f.block
block-least p f h =
    let s = samples _ _ _ _ (good f (format-given p f h).rules).samples in
    let w : 8 ≤ f.bits = (bits_range _ s.bits_good).0 in
    omega (arith, s.block_is, mul-le-mul s.channels_least w)

-- every field fits its bytes
pub record Bounds (f : Format) : Type 0 where
  pub tag : f.tag < 65536
  pub channels : f.channels < 65536
  pub rate : f.rate < 4294967296
  pub byterate : f.byterate < 4294967296
  pub block : f.block < 65536
  pub bits : f.bits < 65536
  pub valid : f.valid < 65536
  pub mask : f.mask < 4294967296

pub bounds-in : (p : List ℕ) → Bytes p → Bounds (record_in p)
unfolding record_in
bounds-in p b =
    record {
      tag = number_bound 2 0 p b;
      channels = number_bound 2 2 p b;
      rate = number_bound 4 4 p b;
      byterate = number_bound 4 8 p b;
      block = number_bound 2 12 p b;
      bits = number_bound 2 14 p b;
      valid = picked (λ (n : ℕ). n < 65536) (eqb (length p) 40) _ _ (λ e. number_bound 2 18 p b) (λ e. lit< tt);
      mask = picked (λ (n : ℕ). n < 4294967296) (eqb (length p) 40) _ _ (λ e. number_bound 4 20 p b) (λ e. lit< tt);
    }

pub bounds : (p : List ℕ) (f : Format) → Bytes p → format_in p ≡ Ok f → Bounds f
bounds p f b h = subst Bounds (sym (format-given p f h).is) (bounds-in p b)

-- its size is the payload's length: 16, 18 or 40
pub size_is : (p : List ℕ) (f : Format) → format_in p ≡ Ok f → f.size ≡ length p
unfolding record_in
size_is p f h = ap (λ (g : Format). g.size) (format-given p f h).is

-- ---- fields that fit their bytes

pub record Fits (f : Format) : Type 0 where
  pub channels : f.channels < 65536
  pub rate : f.rate < 4294967296
  pub byterate : f.byterate < 4294967296
  pub block : f.block < 65536
  pub mask : f.mask < 4294967296

pub fits : (f : Format) → fields_fit f ≡ true → Fits f
unfolding fields_fit
fits f h =
    let k =
    all
    (ltb f.channels 65536
    ∷ ltb f.rate 4294967296
    ∷ ltb f.byterate 4294967296
    ∷ ltb f.block 65536
    ∷ ltb f.mask 4294967296
    ∷ [])
    h in
    record {
      channels = ltb-true _ _ k.0;
      rate = ltb-true _ _ k.1.0;
      byterate = ltb-true _ _ k.1.1.0;
      block = ltb-true _ _ k.1.1.1.0;
      mask = ltb-true _ _ k.1.1.1.1.0;
    }

pub fits-of : (f : Format) → Fits f → fields_fit f ≡ true
unfolding fields_fit
fits-of f h =
    every_of
    (ltb f.channels 65536
    ∷ ltb f.rate 4294967296
    ∷ ltb f.byterate 4294967296
    ∷ ltb f.block 65536
    ∷ ltb f.mask 4294967296
    ∷ []) (
      lt-ltb _ _ h.channels,
      (lt-ltb _ _ h.rate, (lt-ltb _ _ h.byterate, (lt-ltb _ _ h.block, (lt-ltb _ _ h.mask, tt)))),
    )

-- ---- what follows the first 16 bytes

pub extra-16 : (f : Format) → (f.size ≡ 18 → ⊥) → (f.size ≡ 40 → ⊥) → extra_bytes f ≡ []
unfolding extra_bytes
extra-16 f h k = simp (ne_eqb _ _ h, ne_eqb _ _ k)

pub extra-18 : (f : Format) → f.size ≡ 18 → extra_bytes f ≡ bytes 2 0
unfolding extra_bytes
extra-18 f h = rw h

pub extra-40 : (f : Format) → f.size ≡ 40
    → extra_bytes f
    ≡ bytes 2 22 ++ (bytes 2 f.valid ++ (bytes 4 f.mask ++ (bytes 8 SUBFORMAT-LOW ++ bytes 8 SUBFORMAT-HIGH)))
unfolding extra_bytes
extra-40 f h = rw h
