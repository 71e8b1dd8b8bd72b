-- The laws of entries: the rules of a used one as the code tests them, and what they tell.
-- Assumes nothing.
use mathlib.Core.Path.{◌≡◌, refl, sym, ap, ap₂, ◌∙◌}
use mathlib.Core.Bool.{Bool, true, false, ◌||◌}
use mathlib.Core.List.{List}
use Prim.Native.Nat.{ℕ, ◌≤◌, ◌<◌}
use native.Mathlib.Omega.{arith}
use lib.ListN.{length, take, drop, length-take, length-drop}
use lib.Seq.{take-take}
use Rattle.std.proofs.lemmas.List.{drop-take}
use lib.Dec.{leb, ltb}
use borrow.Author.Tests.{lt-ltb, leb-true, ltb-true}
use Rattle.le.specs.Number.{field, number}
use Rattle.le.specs.Choice.{every}
use Rattle.chna_entry.specs.Ids.{fits, codes, UID, TRACK, CHANNEL, PACK, NOPACK}
use Rattle.chna_entry.specs.Entries.{Used, used_in, used_good}
use Rattle.chna_entry.proofs.Patterns.{both, both_first, both-second, itself, fits-length, either-length}

-- nothing is asked of the pad
front : (e : List ℕ) → used_in (take 39 e) ≡ used_in e
unfolding used_in number field
front e =
    rw (
      drop-take 2 37 e,
      drop-take 14 25 e,
      drop-take 28 11 e,
      take-take 2 39 e (omega arith),
      take-take 12 37 (drop 2 e) (omega arith),
      take-take 14 25 (drop 14 e) (omega arith),
      take-take 11 11 (drop 28 e) (omega arith),
    ) refl

-- an index of 16 bits is below 65,536 anyway
pub used-tests : (channels : ℕ) (e y : List ℕ) → y ≡ take 39 e → number 2 0 y < 65536
    → used_good channels (used_in e)
    ≡ both (leb 1 (number 2 0 y))
    (both (leb (number 2 0 y) channels)
    (both (fits UID (field 12 2 y))
    (both (fits TRACK (field 14 14 y) || fits CHANNEL (field 14 14 y)) (fits PACK (field 11 28 y) || fits NOPACK (field 11 28 y)))))
unfolding used_good used_in every
used-tests channels e y f h =
    ap (used_good channels) (sym (front e) ∙ ap used_in (sym f))
    ∙ ap₂ (λ (a b : Bool).
    both (leb 1 (number 2 0 y))
    (both (leb (number 2 0 y) channels)
    (both a (both (fits UID (field 12 2 y)) (both (fits TRACK (field 14 14 y) || fits CHANNEL (field 14 14 y)) b)))))
    (lt-ltb (number 2 0 y) 65536 h)
    (itself (fits PACK (field 11 28 y) || fits NOPACK (field 11 28 y)))

-- ---- what the rules of a used entry tell

pub record Good (channels : ℕ) (u : Used) : Type 0 where
  pub low : 1 ≤ u.index
  pub high : u.index ≤ channels
  pub narrow : u.index < 65536
  pub uid : length u.uid ≡ 12
  pub track : length u.track ≡ 14
  pub pack : length u.pack ≡ 11

pub good-used : (channels : ℕ) (u : Used) → used_good channels u ≡ true → Good channels u
unfolding used_good every codes
good-used channels u e =
    let t : Bool = fits TRACK u.track || fits CHANNEL u.track in
    let k : Bool = fits PACK u.pack || fits NOPACK u.pack in
    let e₁ = both-second (leb 1 u.index) _ e in
    let e₂ = both-second (leb u.index channels) _ e₁ in
    let e₃ = both-second (ltb u.index 65536) _ e₂ in
    let e₄ = both-second (fits UID u.uid) _ e₃ in
    let e₅ = both-second t (both k true) e₄ in
    record {
      low = leb-true 1 u.index (both_first (leb 1 u.index) _ e);
      high = leb-true u.index channels (both_first (leb u.index channels) _ e₁);
      narrow = ltb-true u.index 65536 (both_first (ltb u.index 65536) _ e₂);
      uid = fits-length UID u.uid (both_first (fits UID u.uid) _ e₃);
      track = either-length TRACK CHANNEL u.track refl (both_first t (both k true) e₄);
      pack = either-length PACK NOPACK u.pack refl (both_first k true e₅);
    }

-- bytes that end ahead of the pad break them
pub short-entry : (channels : ℕ) (e : List ℕ) → length e < 39 → used_good channels (used_in e) ≡ false
unfolding used_in field
short-entry channels e h = by (used_good channels (used_in e)) refl where
  by : (b : Bool) → used_good channels (used_in e) ≡ b → b ≡ false
  by true g = absurd (omega (arith, (good-used channels (used_in e) g).pack, length-take 11 (drop 28 e), length-drop 28 e))
  by false g = refl
