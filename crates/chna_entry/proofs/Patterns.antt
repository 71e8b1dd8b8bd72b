-- The laws of patterns: a pattern in two parts asks each part of its own bytes, a part with no x asks for its own characters, and
-- each pattern of an entry is thus the tests that the code makes. Bytes that fit are as many as the pattern has.
-- Assumes nothing.
use Rattle.std.proofs.Common.{arith, ◌≡◌, refl, sym, ap, ap₂, ◌∙◌, true≢false, Bool, true, false, not, ◌&&◌, ◌||◌, List, [], ◌∷◌, ◌++◌, ℕ, zero, suc, ◌+◌, ◌*◌, ◌-◌, ◌<◌, ◌≤◌, length, take, drop, take_all, get_or, replicate, eqb}
use Rattle.std.proofs.Math.Seq.{take-add, drop-drop, drop-cons, take-take}
use Rattle.std.proofs.lemmas.Bool.{eqb-true, not-true, and_parts}
use Rattle.std.proofs.lemmas.Bool.Decides.{nat_tests}
use Rattle.std.specs.List.{list_all, starts_with}
use lib.Pointwise.{pointwise}
use Rattle.le.specs.Number.{value, field, number}
use Rattle.le.specs.Choice.{pick}
use Rattle.le.proofs.Laws.{field-length}
use Rattle.chna_entry.specs.Ids.{is_hex, fits_one, fits, codes, UID, TRACK, CHANNEL, PACK, NOPACK, UNUSED}
use Rattle.chna_entry.specs.Code.{hexes}

-- ---- two tests, the second asked where the first holds

abbrev pub both : Bool → Bool → Bool
both a b = pick a b false

pub both_first : (a b : Bool) → both a b ≡ true → a ≡ true
unfolding pick
both_first true b e = refl
both_first false b e = e

pub both-second : (a b : Bool) → both a b ≡ true → b ≡ true
unfolding pick
both-second true b e = e
both-second false b e = absurd (true≢false (sym e))

pub itself : (b : Bool) → both b true ≡ b
unfolding pick
itself true = refl
itself false = refl

and_both : (a b : Bool) → (a && b) ≡ both a b
unfolding pick
and_both true b = refl
and_both false b = refl

-- ---- a pattern in two parts

by_first : (a x y z : Bool) → x ≡ both y z → both a x ≡ both (both a y) z
unfolding pick
by_first true x y z e = e
by_first false x y z e = refl

fits-append : (ps l qs m : List ℕ) → length ps ≡ length l → fits (ps ++ qs) (l ++ m) ≡ both (fits ps l) (fits qs m)
unfolding fits pick
fits-append [] [] qs m h = refl
fits-append [] (b ∷ l) qs m h = absurd (omega arith)
fits-append (p ∷ ps) [] qs m h = absurd (omega arith)
fits-append (p ∷ ps) (b ∷ l) qs m h = by_first (fits_one p b) _ _ _ (fits-append ps l qs m (omega arith))

pub fits-split : (ps qs : List ℕ) (at : ℕ) (s : List ℕ) → at + length ps ≤ length s
    → fits (ps ++ qs) (field (length ps + length qs) at s)
    ≡ both (fits ps (field (length ps) at s)) (fits qs (field (length qs) (at + length ps) s))
unfolding field
fits-split ps qs at s h =
    ap (fits (ps ++ qs))
    (take-add (length ps) (length qs) (drop at s)
    ∙ ap (λ (l : List ℕ). take (length ps) (drop at s) ++ take (length qs) l) (drop-drop (length ps) at s))
    ∙ fits-append ps (field (length ps) at s) qs (field (length qs) (at + length ps) s) (sym (field-length (length ps) at s h))

-- ---- digits

pub all-hex : (n : ℕ) (l : List ℕ) → length l ≡ n → list_all is_hex l ≡ fits (hexes n) l
unfolding fits fits_one pick
all-hex zero [] h = refl
all-hex zero (b ∷ l) h = absurd (omega arith)
all-hex (suc n) [] h = absurd (omega arith)
all-hex (suc n) (b ∷ l) h = rw (all-hex n l (omega arith)) (and_both (is_hex b) (fits (hexes n) l))

-- ---- a part with no x

-- bytes of which none is an x
unfoldable pub plain : List ℕ → Bool
plain [] = true
plain (p ∷ ps) = not (eqb p 0x78) && plain ps

swapped : (a b : ℕ) → eqb a b ≡ eqb b a
swapped a b = grind (arith, nat_tests)

plain-one : (p b : ℕ) → eqb p 0x78 ≡ false → eqb p b ≡ fits_one p b
unfolding fits_one pick
plain-one p b e = rw e (swapped p b)

pub plain-fits : (ps l : List ℕ) → plain ps ≡ true → pointwise eqb ps l ≡ fits ps l
unfolding fits plain
plain-fits [] [] e = refl
plain-fits [] (b ∷ l) e = refl
plain-fits (p ∷ ps) [] e = refl
plain-fits (p ∷ ps) (b ∷ l) e =
    let t = and_parts (not (eqb p 0x78)) (plain ps) e in
    rw (plain-one p b (not-true (eqb p 0x78) t.0), plain-fits ps l t.1) (and_both (fits_one p b) (fits ps l))

-- a character of itself
one : (at : ℕ) (s : List ℕ) → at < length s → fits (codes "_") (field 1 at s) ≡ eqb (get_or s at 0) 0x5F
unfolding fits fits_one codes pick field
one at s h = rw (drop-cons s at 0) (itself (eqb (get_or s at 0) 0x5F))

-- the code's test of such a part at a place of the bytes that it judges
abbrev pub begins : List ℕ → ℕ → List ℕ → Bool
begins s at ps = starts_with eqb (take (39 - at) (drop at s)) ps

pub begins-fits : (s : List ℕ) (at : ℕ) (ps : List ℕ) → plain ps ≡ true → at + length ps ≤ 39
    → fits ps (field (length ps) at s) ≡ begins s at ps
unfolding field
begins-fits s at ps e h = sym (rw (take-take (length ps) (39 - at) (drop at s) (omega arith)) (plain-fits ps _ e))

-- ---- what a pattern tells of the bytes that fit it

pub fits-length : (ps l : List ℕ) → fits ps l ≡ true → length l ≡ length ps
unfolding fits pick
fits-length [] [] e = refl
fits-length [] (b ∷ l) e = absurd (true≢false (sym e))
fits-length (p ∷ ps) [] e = absurd (true≢false (sym e))
fits-length (p ∷ ps) (b ∷ l) e = ap suc (fits-length ps l (both-second (fits_one p b) (fits ps l) e))

pub either-length : (ps qs l : List ℕ) → length ps ≡ length qs → (fits ps l || fits qs l) ≡ true → length l ≡ length ps
either-length ps qs l n e = by (fits ps l) refl e where
  by : (b : Bool) → fits ps l ≡ b → (b || fits qs l) ≡ true → length l ≡ length ps
  by true f g = fits-length ps l f
  by false f g = fits-length qs l g ∙ sym n

-- no others do
pub misfits : (ps l : List ℕ) → (length l ≡ length ps → ⊥) → fits ps l ≡ false
misfits ps l h = by (fits ps l) refl where
  by : (b : Bool) → fits ps l ≡ b → b ≡ false
  by true f = absurd (h (fits-length ps l f))
  by false f = refl

-- bytes fit a pattern of zeros where their number is 0, as the code asks
zero-more : (b v : ℕ) → both (eqb b 0) (eqb v 0) ≡ eqb (b + 256 * v) 0
unfolding pick
zero-more b v = grind (arith, nat_tests)

zeros-value : (n : ℕ) (l : List ℕ) → length l ≡ n → fits (replicate n 0) l ≡ eqb (value l) 0
unfolding fits fits_one pick value
zeros-value zero [] h = refl
zeros-value zero (b ∷ l) h = absurd (omega arith)
zeros-value (suc n) [] h = absurd (omega arith)
zeros-value (suc n) (b ∷ l) h = rw (zeros-value n l (omega arith)) (zero-more b (value l))

pub zeros-number : (n at : ℕ) (s : List ℕ) → at + n ≤ length s → fits (replicate n 0) (field n at s) ≡ eqb (number n at s) 0
unfolding number
zeros-number n at s h = zeros-value n (field n at s) (field-length n at s h)

-- bytes that are equal to zeros fit a pattern of zeros
pub same-zeros : (n : ℕ) (l : List ℕ) → pointwise eqb l (replicate n 0) ≡ fits (replicate n 0) l
unfolding fits fits_one pick
same-zeros zero [] = refl
same-zeros zero (b ∷ l) = refl
same-zeros (suc n) [] = refl
same-zeros (suc n) (b ∷ l) = rw (same-zeros n l) (and_both (eqb b 0) (fits (replicate n 0) l))

-- zeros are all that fits a pattern of zeros
pub zeros-only : (n : ℕ) (l : List ℕ) → fits (replicate n 0) l ≡ true → l ≡ replicate n 0
unfolding fits fits_one pick
zeros-only zero [] e = refl
zeros-only zero (b ∷ l) e = absurd (true≢false (sym e))
zeros-only (suc n) [] e = absurd (true≢false (sym e))
zeros-only (suc n) (b ∷ l) e =
    ap₂ (λ (x : ℕ) (y : List ℕ). x ∷ y)
    (eqb-true b 0 (both_first (eqb b 0) (fits (replicate n 0) l) e))
    (zeros-only n l (both-second (eqb b 0) (fits (replicate n 0) l) e))

-- ---- the patterns of an entry, as the code tests them

module _ (e : List ℕ) (n : length e ≡ 39) where
  pub uid-tests : fits UID (field 12 2 e) ≡ both (begins e 2 (codes "ATU_")) (fits (hexes 8) (field 8 6 e))
  unfolding codes plain
  uid-tests = rw (fits-split (codes "ATU_") (hexes 8) 2 e (omega arith), begins-fits e 2 (codes "ATU_") refl (omega arith)) refl

  pub track-tests : fits TRACK (field 14 14 e)
      ≡ both (begins e 14 (codes "AT_"))
      (both (fits (hexes 8) (field 8 17 e)) (both (eqb (get_or e 25 0) 0x5F) (fits (hexes 2) (field 2 26 e))))
  unfolding codes plain
  track-tests =
      fits-split (codes "AT_") (codes "xxxxxxxx_xx") 14 e (omega arith)
      ∙ ap₂ both (begins-fits e 14 (codes "AT_") refl (omega arith))
      (fits-split (hexes 8) (codes "_xx") 17 e (omega arith)
      ∙ ap (both (fits (hexes 8) (field 8 17 e)))
      (fits-split (codes "_") (hexes 2) 25 e (omega arith)
      ∙ ap (λ (t : Bool). both t (fits (hexes 2) (field 2 26 e))) (one 25 e (omega arith))))

  pub channel-tests : fits CHANNEL (field 14 14 e)
      ≡ both (begins e 14 (codes "AC_")) (both (fits (hexes 8) (field 8 17 e)) (begins e 25 (codes "_00")))
  unfolding codes plain
  channel-tests =
      fits-split (codes "AC_") (codes "xxxxxxxx_00") 14 e (omega arith)
      ∙ ap₂ both (begins-fits e 14 (codes "AC_") refl (omega arith))
      (fits-split (hexes 8) (codes "_00") 17 e (omega arith)
      ∙ ap (both (fits (hexes 8) (field 8 17 e))) (begins-fits e 25 (codes "_00") refl (omega arith)))

  pub pack-tests : fits PACK (field 11 28 e) ≡ both (begins e 28 (codes "AP_")) (fits (hexes 8) (field 8 31 e))
  unfolding codes plain
  pack-tests =
      fits-split (codes "AP_") (hexes 8) 28 e (omega arith)
      ∙ ap (λ (t : Bool). both t (fits (hexes 8) (field 8 31 e))) (begins-fits e 28 (codes "AP_") refl (omega arith))

  pub nopack-tests : fits NOPACK (field 11 28 e)
      ≡ both (eqb (number 8 28 e) 0) (both (eqb (number 2 36 e) 0) (eqb (number 1 38 e) 0))
  nopack-tests =
      fits-split (replicate 8 0) (replicate 3 0) 28 e (omega arith)
      ∙ ap₂ both (zeros-number 8 28 e (omega arith))
      (fits-split (replicate 2 0) (replicate 1 0) 36 e (omega arith)
      ∙ ap₂ both (zeros-number 2 36 e (omega arith)) (zeros-number 1 38 e (omega arith)))

pub unused-tests : (e : List ℕ) → length e ≡ 40
    → fits UNUSED e
    ≡ both (eqb (number 8 0 e) 0)
    (both (eqb (number 8 8 e) 0) (both (eqb (number 8 16 e) 0) (both (eqb (number 8 24 e) 0) (eqb (number 8 32 e) 0))))
unfolding field
unused-tests e n =
    ap (fits UNUSED) (sym (take_all 40 e (omega arith)))
    ∙ fits-split (replicate 8 0) (replicate 32 0) 0 e (omega arith)
    ∙ ap₂ both (zeros-number 8 0 e (omega arith))
    (fits-split (replicate 8 0) (replicate 24 0) 8 e (omega arith)
    ∙ ap₂ both (zeros-number 8 8 e (omega arith))
    (fits-split (replicate 8 0) (replicate 16 0) 16 e (omega arith)
    ∙ ap₂ both (zeros-number 8 16 e (omega arith))
    (fits-split (replicate 8 0) (replicate 8 0) 24 e (omega arith)
    ∙ ap₂ both (zeros-number 8 24 e (omega arith)) (zeros-number 8 32 e (omega arith)))))
