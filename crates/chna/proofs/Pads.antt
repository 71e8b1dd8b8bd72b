-- The laws of pads: zeroing them one entry after the other, where they stand; in a payload; and at the start of an output.
-- Assumes nothing.
use mathlib.Core.Path.{◌≡◌, refl, sym, ap, ap₂, ◌∙◌}
use mathlib.Core.List.{List, [], ◌∷◌, ◌++◌, append_assoc}
use Prim.Native.Nat.{ℕ, zero, suc, ◌+◌, ◌-◌, ◌*◌, ◌/◌, ◌≤◌, ◌<◌}
use native.Mathlib.Nat.{zero-add, suc-add}
use native.Mathlib.Omega.{arith}
use lib.ListN.{length, set, take, drop, length-set, length-append, length-drop, take-append-drop}
use lib.Seq.{set-append_left, length-take-le, take_at, drop_at, drop-drop}
use Rattle.chunk.specs.Refusals.{Ok}
use Rattle.chunk.specs.Writes.{fitting, output_of}
use Rattle.chunk.proofs.Outputs.{no_room, room}
use Rattle.chna.specs.Records.{pads_at, pads_off, pads_zeroed}

-- ---- one entry more

set_append_right : (xs ys : List ℕ) (n a : ℕ) → set (xs ++ ys) (length xs + n) a ≡ xs ++ set ys n a
set_append_right [] ys n a = ap (λ (k : ℕ). set ys k a) (zero-add n)
set_append_right (x ∷ xs) ys n a =
    ap (λ (k : ℕ). set (x ∷ (xs ++ ys)) k a) (suc-add (length xs) n)
    ∙ ap (λ (l : List ℕ). x ∷ l) (set_append_right xs ys n a)

entry_length : (s : List ℕ) → 40 ≤ length s → length (set (take 40 s) 39 0) ≡ 40
entry_length s h = length-set (take 40 s) 39 0 ∙ length-take-le 40 s h

-- the next pad, where it stands
next-pad : (i : ℕ) (s : List ℕ) → i * 40 + 40 ≤ length s → set (pads_at i s) (i * 40 + 39) 0 ≡ pads_at (suc i) s
unfolding pads_at
next-pad zero s h =
    ap (λ (l : List ℕ). set l 39 0) (sym (take-append-drop 40 s))
    ∙ set-append_left (take 40 s) (drop 40 s) 39 0 (omega (arith, length-take-le 40 s (omega arith)))
next-pad (suc i) s h =
    let k : suc i * 40 + 39 ≡ length (set (take 40 s) 39 0) + (i * 40 + 39) = omega (arith, entry_length s (omega arith)) in
    ap (λ (n : ℕ). set (pads_at (suc i) s) n 0) k
    ∙ set_append_right (set (take 40 s) 39 0) (pads_at i (drop 40 s)) (i * 40 + 39) 0
    ∙ ap (λ (l : List ℕ). set (take 40 s) 39 0 ++ l) (next-pad i (drop 40 s) (omega (arith, length-drop 40 s)))

pub pads-length : (i : ℕ) (s : List ℕ) → i * 40 ≤ length s → length (pads_at i s) ≡ length s
unfolding pads_at
pads-length zero s h = refl
pads-length (suc i) s h =
    omega
    (arith, length-append (set (take 40 s) 39 0) (pads_at i (drop 40 s)), entry_length s (omega arith), length-drop 40 s, pads-length i (drop 40 s) (omega (arith, length-drop 40 s)))

-- ---- a payload

-- the pads ahead of a place zeroed, at which the next one stands
pub record Zeroed (p q : List ℕ) (at : ℕ) : Type 0 where
  pub count : ℕ
  pub place : at ≡ count * 40 + 43
  pub whole : count * 40 ≤ length (drop 4 p)
  pub is : q ≡ take 4 p ++ pads_at count (drop 4 p)
  pub long : length q ≡ length p

pub none-zeroed : (p : List ℕ) → Zeroed p p 43
unfolding pads_at
none-zeroed p = record { count = 0; place = refl; whole = omega arith; is = sym (take-append-drop 4 p); long = refl }

module _ (p q : List ℕ) (at : ℕ) (z : Zeroed p q at) where
  pub one-zeroed : at < length p → Zeroed p (set q at 0) (at + 40)
  one-zeroed h =
      let n = z.count in
      let room : n * 40 + 40 ≤ length (drop 4 p) = omega (arith, length-drop 4 p) in
      let place : at ≡ length (take 4 p) + (n * 40 + 39) = omega (arith, length-take-le 4 p (omega arith)) in
      record {
        count = suc n;
        place = omega arith;
        whole = omega arith;
        is =
            ap₂ (λ (l : List ℕ) (i : ℕ). set l i 0) z.is place
            ∙ set_append_right (take 4 p) (pads_at n (drop 4 p)) (n * 40 + 39) 0
            ∙ ap (λ (l : List ℕ). take 4 p ++ l) (next-pad n (drop 4 p) room);
        long = length-set q at 0 ∙ z.long;
      }

  pub all-zeroed : length p ≤ at → q ≡ pads_zeroed p
  unfolding pads_zeroed pads_off
  all-zeroed h =
      let count : z.count ≡ length (drop 4 p) / 40 = omega (arith, length-drop 4 p) in
      z.is ∙ ap (λ (n : ℕ). take 4 p ++ pads_at n (drop 4 p)) count

pub zeroed-length : (p : List ℕ) → length (pads_zeroed p) ≡ length p
unfolding pads_zeroed pads_off
zeroed-length p =
    omega
    (arith, length-append (take 4 p) (pads_off (drop 4 p)), pads-length (length (drop 4 p) / 40) (drop 4 p) (omega arith), length-append (take 4 p) (drop 4 p), ap length (take-append-drop 4 p))

-- a payload with no whole entry, as one below 4 bytes, is left as it was
pub no-entry : (p : List ℕ) → length p < 44 → pads_zeroed p ≡ p
no-entry p h = sym (all-zeroed p p 43 (none-zeroed p) (omega arith))

-- ---- at the start of an output

-- a payload, its pads zeroed where it stands
pub zeroed-front : (n : ℕ) (p rest out z : List ℕ) → length p ≡ n → out ≡ p ++ rest → z ≡ pads_zeroed (take n out)
    → z ++ drop n out ≡ pads_zeroed p ++ rest
zeroed-front n p rest out z h e f =
    ap₂ (λ (a b : List ℕ). a ++ b)
    (f ∙ ap pads_zeroed (ap (take n) e ∙ take_at p rest n h))
    (ap (drop n) e ∙ drop_at p rest n h)

-- what copying it leaves, by whether there is room
pub copied-whole : (p out : List ℕ) → length p ≤ length out
    → output_of out (fitting out (Ok (pads_zeroed p))) ≡ pads_zeroed p ++ drop (length p) out
unfolding output_of
copied-whole p out h =
    ap (output_of out) (room (pads_zeroed p) out (omega (arith, zeroed-length p)))
    ∙ ap (λ (n : ℕ). pads_zeroed p ++ drop n out) (zeroed-length p)

pub copied-short : (p out : List ℕ) → length out < length p → output_of out (fitting out (Ok (pads_zeroed p))) ≡ out
unfolding output_of
copied-short p out h = ap (output_of out) (no_room (pads_zeroed p) out (omega (arith, zeroed-length p)))

-- four bytes stored there, and entries copied behind them
module _ (four s out stored copied : List ℕ) (n : length four ≡ 4) (e : stored ≡ four ++ drop 4 out) (f : copied ≡ s) where
  -- the output as the copy leaves it
  abbrev after : List ℕ
  after = take 4 stored ++ (copied ++ drop (4 + length s - 4) (drop 4 stored))

  laid : after ≡ four ++ s ++ drop (4 + length s) out
  laid =
      let size : 4 + length s - 4 ≡ length s = omega arith in
      let rest : drop (4 + length s - 4) (drop 4 stored) ≡ drop (4 + length s) out =
      ap (λ (k : ℕ). drop k (drop 4 stored)) size
      ∙ ap (drop (length s)) (ap (drop 4) e ∙ drop_at four (drop 4 out) 4 n)
      ∙ drop-drop (length s) 4 out in
      ap₂ (λ (a b : List ℕ). a ++ b) (ap (take 4) e ∙ take_at four (drop 4 out) 4 n) (ap₂ (λ (a b : List ℕ). a ++ b) f rest)
      ∙ sym (append_assoc four s (drop (4 + length s) out))

  -- and then their pads zeroed
  pub laid-zeroed : (z : List ℕ) → z ≡ pads_zeroed (take (4 + length s) after)
      → z ++ drop (4 + length s) after ≡ four ++ pads_off s ++ drop (4 + length s) out
  unfolding pads_zeroed
  laid-zeroed z g =
      zeroed-front (4 + length s) (four ++ s) (drop (4 + length s) out) _ z (omega (arith, length-append four s)) laid g
      ∙ ap₂ (λ (a b : List ℕ). a ++ pads_off b ++ drop (4 + length s) out) (take_at four s 4 n) (drop_at four s 4 n)
