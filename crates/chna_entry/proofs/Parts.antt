-- The parts of an entry, one behind the other: those of a good one are read back from there, and those of an entry's bytes
-- are these bytes, but for the pad.
-- Assumes nothing.
use mathlib.Core.Path.{◌≡◌, refl, sym, ap, ap₂, ◌∙◌}
use mathlib.Core.Bool.{Bool, true, false}
use mathlib.Core.List.{List, [], ◌∷◌, ◌++◌, append_assoc}
use Prim.Native.Nat.{ℕ, ◌<◌}
use native.Mathlib.Omega.{arith}
use lib.ListN.{length, set, take, drop, length-append, drop_of_length-le}
use lib.Seq.{set_split, take-add, drop_at}
use Rattle.le.specs.Number.{value, bytes, field, number}
use Rattle.le.proofs.Laws.{bytes-length, field_at, number_at}
use Rattle.chna_entry.specs.Ids.{fits, UNUSED}
use Rattle.chna_entry.specs.Entries.{Used, used_in}
use Rattle.chna_entry.proofs.Patterns.{zeros-only}
use Rattle.chna_entry.proofs.Entries.{Good}

-- what stands behind so many bytes
behind : (a m z : List ℕ) (at : ℕ) → length a ≡ at → drop at (a ++ m ++ z) ≡ m ++ z
behind a m z at h = ap (drop at) (append_assoc a m z) ∙ drop_at a (m ++ z) at h

field-mid : (a m z : List ℕ) (at n : ℕ) → length a ≡ at → length m ≡ n → field n at (a ++ m ++ z) ≡ m
field-mid a m z at n h k = field_at n at (a ++ m ++ z) m z k (behind a m z at h)

pub number-mid : (a z : List ℕ) (at v : ℕ) → length a ≡ at → v < 65536 → number 2 at (a ++ bytes 2 v ++ z) ≡ v
number-mid a z at v h k = number_at 2 at v (a ++ bytes 2 v ++ z) z k (behind a (bytes 2 v) z at h)

pub number-first : (z : List ℕ) (v : ℕ) → v < 65536 → number 2 0 (bytes 2 v ++ z) ≡ v
number-first z v k = number-mid [] z 0 v refl k

abbrev made : ℕ → List ℕ → List ℕ → List ℕ → Used
made i x y z = record { index = i; uid = x; track = y; pack = z }

-- the bytes of a used entry
abbrev pub laid_out : Used → List ℕ
laid_out u = bytes 2 u.index ++ u.uid ++ u.track ++ u.pack ++ (0 ∷ [])

module _ (channels : ℕ) (u : Used) (g : Good channels u) where
  pub used-length : length (laid_out u) ≡ 40
  used-length =
      omega (
        arith,
        length-append (bytes 2 u.index ++ u.uid ++ u.track ++ u.pack) (0 ∷ []),
        length-append (bytes 2 u.index ++ u.uid ++ u.track) u.pack,
        length-append (bytes 2 u.index ++ u.uid) u.track,
        length-append (bytes 2 u.index) u.uid,
        bytes-length 2 u.index,
        g.uid,
        g.track,
        g.pack,
      )

  -- the same bytes with more and more of them behind
  from-pack : laid_out u ≡ bytes 2 u.index ++ u.uid ++ u.track ++ (u.pack ++ (0 ∷ []))
  from-pack = append_assoc (bytes 2 u.index ++ u.uid ++ u.track) u.pack (0 ∷ [])

  from-track : laid_out u ≡ bytes 2 u.index ++ u.uid ++ (u.track ++ (u.pack ++ (0 ∷ [])))
  from-track = from-pack ∙ append_assoc (bytes 2 u.index ++ u.uid) u.track (u.pack ++ (0 ∷ []))

  index_back : number 2 0 (laid_out u) ≡ u.index
  index_back =
      ap (number 2 0) (from-track ∙ append_assoc (bytes 2 u.index) u.uid (u.track ++ (u.pack ++ (0 ∷ []))))
      ∙ number-first (u.uid ++ (u.track ++ (u.pack ++ (0 ∷ [])))) u.index g.narrow

  pub used-back : used_in (laid_out u) ≡ u
  unfolding used_in
  used-back =
      let two : length (bytes 2 u.index) ≡ 2 = bytes-length 2 u.index in
      let uids : length (bytes 2 u.index ++ u.uid) ≡ 14 =
      omega (arith, length-append (bytes 2 u.index) u.uid, two, g.uid) in
      let tracks : length (bytes 2 u.index ++ u.uid ++ u.track) ≡ 28 =
      omega (arith, length-append (bytes 2 u.index ++ u.uid) u.track, uids, g.track) in
      ap₂ (λ (i : ℕ) (x : List ℕ). made i x (field 14 14 (laid_out u)) (field 11 28 (laid_out u)))
      index_back
      (ap (field 12 2) from-track ∙ field-mid (bytes 2 u.index) u.uid (u.track ++ (u.pack ++ (0 ∷ []))) 2 12 two g.uid)
      ∙ ap₂ (λ (x y : List ℕ). made u.index u.uid x y)
      (ap (field 14 14) from-pack ∙ field-mid (bytes 2 u.index ++ u.uid) u.track (u.pack ++ (0 ∷ [])) 14 14 uids g.track)
      (field-mid (bytes 2 u.index ++ u.uid ++ u.track) u.pack (0 ∷ []) 28 11 tracks g.pack)

  pub not_zeros : fits UNUSED (laid_out u) ≡ false
  unfolding number field value
  not_zeros = by (fits UNUSED (laid_out u)) refl where
    by : (b : Bool) → fits UNUSED (laid_out u) ≡ b → b ≡ false
    by true f =
        let zero-index : u.index ≡ 0 = sym index_back ∙ ap (number 2 0) (zeros-only 40 (laid_out u) f) in
        absurd (omega (arith, g.low))
    by false f = refl

-- the parts of 40 bytes, and a zero for the pad
pub parts : (e : List ℕ) → length e ≡ 40
    → field 2 0 e ++ field 12 2 e ++ field 14 14 e ++ field 11 28 e ++ (0 ∷ []) ≡ set e 39 0
unfolding field
parts e n =
    ap (λ (l : List ℕ). l ++ take 14 (drop 14 e) ++ take 11 (drop 28 e) ++ (0 ∷ [])) (sym (take-add 2 12 e))
    ∙ ap (λ (l : List ℕ). l ++ take 11 (drop 28 e) ++ (0 ∷ [])) (sym (take-add 14 14 e))
    ∙ ap (λ (l : List ℕ). l ++ (0 ∷ [])) (sym (take-add 28 11 e))
    ∙ ap (λ (l : List ℕ). take 39 e ++ (0 ∷ l)) (sym (drop_of_length-le e {i = 40} (omega arith)))
    ∙ sym (set_split e 39 0 (omega arith))
