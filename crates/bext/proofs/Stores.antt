-- The parts of a payload, one after the other: how long each is, and where the next one starts.
-- Assumes nothing.
use mathlib.Core.Path.{◌≡◌, refl, sym, ap, ◌∙◌}
use mathlib.Core.List.{List, [], ◌∷◌, ◌++◌, append-nil}
use Prim.Native.Nat.{ℕ, suc, ◌+◌, ◌-◌, ◌≤◌}
use native.Mathlib.Omega.{arith}
use lib.ListN.{length, take, drop, replicate, length-append, length-replicate, length-drop}
use lib.Seq.{sets, length-sets, take_at, drop_at, take-length, length-take-le}
use Rattle.std.proofs.lemmas.List.{drop_all, drop-replicate}
use lib.Dec.{eqb-suc-zero}
use Rattle.le.specs.Number.{bytes}
use Rattle.le.proofs.Laws.{bytes-length, part-set}
use Rattle.chunk.proofs.Outputs.{puts-next}
use Rattle.bext_parts.specs.Parts.{rest_of, padded}
use Rattle.bext.specs.Records.{Whole}
use Rattle.bext.specs.Writing.{laid}
use Rattle.bext.specs.Code.{Fitting}

pub padded-length : (n : ℕ) (t : List ℕ) → length t ≤ n → length (padded n t) ≡ n
unfolding padded
padded-length n t h = rw (length-append t (replicate (n - length t) 0), length-replicate {A = ℕ} (n - length t) 0) (omega arith)

-- the bytes after Version that a writer is given, none or all of them, padded to 254
some-rest : (b : ℕ) (rest : List ℕ) → rest_of (b ∷ rest) ≡ b ∷ rest
unfolding rest_of
some-rest b rest = rw (eqb-suc-zero (length rest))

pub padded-rest : (rest : List ℕ) → length (rest_of rest) ≡ 254 → padded 254 rest ≡ rest_of rest
unfolding padded rest_of
padded-rest [] e = refl
padded-rest (b ∷ rest) e =
    let z : 254 - suc (length rest) ≡ 0 = omega (arith, ap length (some-rest b rest)) in
    rw (some-rest b rest, z, append-nil (b ∷ rest))

pub rest-short : (rest : List ℕ) → length (rest_of rest) ≡ 254 → length rest ≤ 254
unfolding rest_of
rest-short [] e = omega arith
rest-short (b ∷ rest) e = omega (arith, ap length (some-rest b rest))

-- ---- a payload, part after part

abbrev pub front1 : Whole → List ℕ
front1 w = padded 256 w.description

abbrev pub front2 : Whole → List ℕ
front2 w = front1 w ++ padded 32 w.originator

abbrev pub front3 : Whole → List ℕ
front3 w = front2 w ++ padded 32 w.reference

abbrev pub front4 : Whole → List ℕ
front4 w = front3 w ++ padded 10 w.date

abbrev pub front5 : Whole → List ℕ
front5 w = front4 w ++ padded 8 w.time

abbrev pub front6 : Whole → List ℕ
front6 w = front5 w ++ bytes 8 w.timeref

abbrev pub front7 : Whole → List ℕ
front7 w = front6 w ++ bytes 2 w.version

abbrev pub front8 : Whole → List ℕ
front8 w = front7 w ++ w.rest

module _ (w : Whole) (fit : Fitting w) where
  pub length1 : length (front1 w) ≡ 256
  length1 = padded-length 256 w.description fit.description_fits

  pub length2 : length (front2 w) ≡ 288
  length2 = omega (arith, length-append (front1 w) (padded 32 w.originator), length1, padded-length 32 w.originator fit.originator_fits)

  pub length3 : length (front3 w) ≡ 320
  length3 = omega (arith, length-append (front2 w) (padded 32 w.reference), length2, padded-length 32 w.reference fit.reference_fits)

  pub length4 : length (front4 w) ≡ 330
  length4 = omega (arith, length-append (front3 w) (padded 10 w.date), length3, padded-length 10 w.date fit.date_fits)

  pub length5 : length (front5 w) ≡ 338
  length5 = omega (arith, length-append (front4 w) (padded 8 w.time), length4, padded-length 8 w.time fit.time_fits)

  pub length6 : length (front6 w) ≡ 346
  length6 = omega (arith, length-append (front5 w) (bytes 8 w.timeref), length5, bytes-length 8 w.timeref)

  pub length7 : length (front7 w) ≡ 348
  length7 = omega (arith, length-append (front6 w) (bytes 2 w.version), length6, bytes-length 2 w.version)

  pub length8 : length (front8 w) ≡ 602
  length8 = omega (arith, length-append (front7 w) w.rest, length7, fit.rest_fits)

  pub laid-length : length (laid w) ≡ 602 + length w.history
  unfolding laid
  laid-length = omega (arith, length-append (front8 w) w.history, length8)

-- ---- how the parts are put

over : (t place z : List ℕ) → length t ≤ length place
    → z ≡ replicate (length (take (length (t ++ drop (length t) place) - length t) (drop (length t) (t ++ drop (length t) place)))) 0
    → take (length t) (t ++ drop (length t) place)
    ++ (z ++ drop (length (t ++ drop (length t) place) - length t) (drop (length t) (t ++ drop (length t) place)))
    ≡ padded (length place) t
unfolding padded
over t place z h f =
    let b : List ℕ = drop (length t) place in
    let size : length (t ++ b) - length t ≡ length b = omega (arith, length-append t b) in
    let left : drop (length t) (t ++ b) ≡ b = drop_at t b (length t) refl in
    let zeros = rw (size, left, take-length b) at f in
    let none : drop (length b) b ≡ [] = drop_all (length b) b (omega arith) in
    rw (take_at t b (length t) refl, size, left, none, zeros, append-nil (replicate {A = ℕ} (length b) 0), length-drop (length t) place)

-- a text over the start of its place, and zeros over what is left of it
pub text-then-zeros : (t place x z : List ℕ) → length t ≤ length place → x ≡ t
    → z ≡ replicate (length (take (length (x ++ drop (length t) place) - length t) (drop (length t) (x ++ drop (length t) place)))) 0
    → take (length t) (x ++ drop (length t) place)
    ++ (z ++ drop (length (x ++ drop (length t) place) - length t) (drop (length t) (x ++ drop (length t) place)))
    ≡ padded (length place) t
text-then-zeros t place x z h e f = let g = rw e at f in rw e (over t place z h g)

-- a text over the start of zeros
pub zeros-then-text : (n : ℕ) (t x z : List ℕ) → x ≡ t → z ≡ replicate n 0 → x ++ drop (length t) z ≡ padded n t
unfolding padded
zeros-then-text n t x z e f = rw (e, f) (ap (λ (l : List ℕ). t ++ l) (drop-replicate (length t) n 0))

-- a part put behind those before it
pub put-part : (s o front z part : List ℕ) (at k : ℕ) → o ≡ sets s 0 front → length front ≡ at → z ≡ part → length part ≡ k
    → at + k ≤ length s → take at o ++ (z ++ drop k (drop at o)) ≡ sets s 0 (front ++ part)
put-part s o front z part at k q e f g h =
    rw q (
    part-set (sets s 0 front) z part at k f (sym g) (omega (arith, length-sets s 0 front))
    ∙ puts-next s front part 0 at (omega arith)
    )

-- the same of a text
pub put-text-part : (s o front z t : List ℕ) (at k : ℕ) → o ≡ sets s 0 front → length front ≡ at
    → z ≡ padded (length (take k (drop at o))) t → length t ≤ k → at + k ≤ length s
    → take at o ++ (z ++ drop k (drop at o)) ≡ sets s 0 (front ++ padded k t)
put-text-part s o front z t at k q e f g h =
    let same : length o ≡ length s = rw q (length-sets s 0 front) in
    let size : length (take k (drop at o)) ≡ k = length-take-le k (drop at o) (omega (arith, length-drop at o)) in
    put-part s o front z (padded k t) at k q e (f ∙ ap (λ (n : ℕ). padded n t) size) (padded-length k t g) h
