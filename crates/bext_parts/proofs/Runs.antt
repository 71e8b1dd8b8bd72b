-- The laws of runs: from each place in a run the end is the same, so a run may be passed by blocks of any width.
-- Assumes nothing.
use mathlib.Core.Path.{◌≡◌, refl, sym, ap, ◌∙◌}
use mathlib.Core.Bool.{Bool, true, false, not, ◌||◌, beq}
use mathlib.Core.List.{List, [], ◌∷◌}
use Prim.Native.Nat.{ℕ, zero, suc, ◌+◌, ◌-◌, ◌*◌, ◌/◌, ◌≤◌, ◌<◌, min}
use native.Mathlib.Omega.{arith}
use lib.ListN.{length, take, drop, get_or, length-drop}
use lib.Seq.{drop-cons, take_all, length-take-le}
use Rattle.std.proofs.lemmas.Bool.Decides.{nat_tests}
use native.Mathlib.Nat.{mul_comm, suc-mul, le-div_iff_mul-le}
use lib.Dec.{eqb, ltb, leb-suc-suc}
use borrow.Author.Tests.{lt-ltb, le-ltb, ltb-true, ltb-false}
use Rattle.le.specs.Choice.{pick}
use Rattle.bext_parts.specs.Parts.{all_zero, text_of}
use Rattle.bext_parts.specs.Code.{run, Past}

-- a block of n that starts whole blocks of n within so many bytes ends within them
pub block-fits : (n i k : ℕ) → 0 < n → i < k / n → n * i + n ≤ k
block-fits n i k p h = omega (arith, (le-div_iff_mul-le {x = suc i} {y = k} p).0 h, suc-mul i n, mul_comm n i)

-- a byte as a run has them
abbrev pub like : Bool → ℕ → Bool
like zeros b = beq (eqb b 0) zeros

module _ (zeros : Bool) where
  pub run_short : (s : List ℕ) → run zeros s ≤ length s
  unfolding run
  run_short [] = omega arith
  run_short (b ∷ s) = which (like zeros b) (run_short s)
    where
      which : (t : Bool) → run zeros s ≤ length s → pick t (suc (run zeros s)) 0 ≤ suc (length s)
      which true h = omega arith
      which false h = omega arith

  -- past k bytes of a run the rest of it stands
  pub run-rest : (k : ℕ) (s : List ℕ) → k ≤ run zeros s → run zeros s ≡ k + run zeros (drop k s)
  unfolding run
  run-rest zero s h = omega arith
  run-rest (suc k) [] h = absurd (omega arith)
  run-rest (suc k) (b ∷ s) h = which (like zeros b) (run-rest k s) h
    where
      which : (t : Bool) → (k ≤ run zeros s → run zeros s ≡ k + run zeros (drop k s))
          → suc k ≤ pick t (suc (run zeros s)) 0 → pick t (suc (run zeros s)) 0 ≡ suc k + run zeros (drop k s)
      which true f h = omega (arith, f (omega arith))
      which false f h = absurd (omega arith)

  -- a run of the first n bytes
  pub run-take : (n : ℕ) (s : List ℕ) → run zeros (take n s) ≡ min n (run zeros s)
  unfolding run
  run-take zero s = omega arith
  run-take (suc n) [] = omega arith
  run-take (suc n) (b ∷ s) = which (like zeros b) (run-take n s)
    where
      which : (t : Bool) → run zeros (take n s) ≡ min n (run zeros s)
          → pick t (suc (run zeros (take n s))) 0 ≡ min (suc n) (pick t (suc (run zeros s)) 0)
      which true h = omega arith
      which false h = omega arith

module _ (zeros : Bool) (s : List ℕ) where
  -- one byte, which ends the run or does not
  run-stops : (i : ℕ) → i < length s → i ≤ run zeros s → like zeros (get_or s i 0) ≡ false → run zeros s ≡ i
  unfolding run
  run-stops i h l e = rw (run-rest zeros i s l, drop-cons s i 0, e) (omega arith)

  run-goes-on : (i : ℕ) → i < length s → i ≤ run zeros s → like zeros (get_or s i 0) ≡ true → i < run zeros s
  unfolding run
  run-goes-on i h l e = rw (run-rest zeros i s l, drop-cons s i 0, e) (omega arith)

  -- whether the run ends within one byte more
  pub run_ends : (j : ℕ) → j < length s
      → (ltb (run zeros s) j || not (like zeros (get_or s j 0))) ≡ ltb (run zeros s) (j + 1)
  run_ends j h = before (ltb (run zeros s) j) refl
    where
      here : j ≤ run zeros s → (t : Bool) → like zeros (get_or s j 0) ≡ t → not t ≡ ltb (run zeros s) (j + 1)
      here p true e = sym (le-ltb (run zeros s) (j + 1) (omega (arith, run-goes-on j h p e)))
      here p false e = sym (lt-ltb (run zeros s) (j + 1) (omega (arith, run-stops j h p e)))

      before : (t : Bool) → ltb (run zeros s) j ≡ t → (t || not (like zeros (get_or s j 0))) ≡ ltb (run zeros s) (j + 1)
      before true e = sym (lt-ltb (run zeros s) (j + 1) (omega (arith, ltb-true (run zeros s) j e)))
      before false e = here (ltb-false _ _ e) (like zeros (get_or s j 0)) refl

  -- a block that is all of the run, and one in which it ends
  pub block-passed : (k n m : ℕ) → m ≡ n → k ≤ run zeros s → k + n ≤ length s
      → ltb (run zeros (take m (drop k s))) (length (take m (drop k s))) ≡ false → k + n ≤ run zeros s
  block-passed k n m q l h e =
      let at : length (drop k s) ≡ length s - k = length-drop k s in
      omega (arith, at, q, run-rest zeros k s l, run-take zeros m (drop k s), length-take-le m (drop k s) (omega arith), ltb-false _ _ e)

  pub block-ends : (k n m : ℕ) → m ≡ n → k ≤ run zeros s → k + n ≤ length s
      → ltb (run zeros (take m (drop k s))) (length (take m (drop k s))) ≡ true → run zeros s < k + n
  block-ends k n m q l h e =
      let at : length (drop k s) ≡ length s - k = length-drop k s in
      omega (arith, at, q, run-rest zeros k s l, run-take zeros m (drop k s), length-take-le m (drop k s) (omega arith), ltb-true _ _ e)

  -- what is left from a place in the run on
  pub past-at : (n k : ℕ) → k ≤ run zeros s → run zeros s < k + n → Past zeros n s (take (length s - k) (drop k s))
  past-at n k l h =
      let at : length (drop k s) ≡ length s - k = length-drop k s in
      let short : run zeros s ≤ length s = run_short zeros s in
      let rest : run zeros s ≡ k + run zeros (drop k s) = run-rest zeros k s l in
      rw (take_all (length s - k) (drop k s) (omega arith))
      record { short = omega arith; same = omega arith; near = omega arith }

  -- whether the run ends ahead of the bytes' end, from a place in it on
  pub run-drop : (k : ℕ) → k ≤ run zeros s → ltb (run zeros (drop k s)) (length (drop k s)) ≡ ltb (run zeros s) (length s)
  run-drop k h =
      same (run zeros (drop k s)) (length (drop k s)) (run zeros s) (length s) (run-rest zeros k s h) (length-drop k s) (run_short zeros s)
    where
      same : (a b c d : ℕ) → c ≡ k + a → b ≡ d - k → c ≤ d → ltb a b ≡ ltb c d
      same a b c d e f l = grind (arith, nat_tests)

-- ---- what the two kinds of run are

-- bytes before the first zero are a text
pub run-text : (s : List ℕ) → run false s ≡ length (text_of s)
unfolding run text_of
run-text [] = refl
run-text (b ∷ s) = which (eqb b 0) (run-text s)
  where
    which : (t : Bool) → run false s ≡ length (text_of s)
        → pick (beq t false) (suc (run false s)) 0 ≡ length (pick t [] (b ∷ text_of s))
    which true h = refl
    which false h = ap suc h

-- no zero ends a text ahead of its bytes' end
pub whole_text : (t : List ℕ) → not (ltb (run false t) (length t)) ≡ eqb (length (text_of t)) (length t)
whole_text t = same (run false t) (length (text_of t)) (length t) (run-text t) (run_short false t)
  where
    same : (r l n : ℕ) → r ≡ l → r ≤ n → not (ltb r n) ≡ eqb l n
    same r l n e f = grind (arith, nat_tests)

-- bytes are all zero where the run of zeros is all of them
pub zeros-run : (s : List ℕ) → all_zero s ≡ not (ltb (run true s) (length s))
unfolding run all_zero
zeros-run [] = refl
zeros-run (b ∷ s) = which (eqb b 0) (zeros-run s)
  where
    which : (t : Bool) → all_zero s ≡ not (ltb (run true s) (length s))
        → pick t (all_zero s) false ≡ not (ltb (pick (beq t true) (suc (run true s)) 0) (suc (length s)))
    which true h = h ∙ ap not (sym (leb-suc-suc (suc (run true s)) (length s)))
    which false h = ap not (sym (lt-ltb 0 (suc (length s)) (omega arith)))
