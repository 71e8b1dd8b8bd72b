-- The laws of a writer's output, whatever is written: one for each outcome that a writer has; and back, what its answer says
-- of its output.
-- Assumes nothing.
use mathlib.Core.Path.{◌≡◌, refl, sym, ap, ◌∙◌, subst}
use mathlib.Core.Bool.{Bool, true, false}
use mathlib.Core.List.{List, ◌++◌}
use Prim.Native.Nat.{ℕ, ◌+◌, ◌≤◌, ◌<◌}
use native.Mathlib.Nat.{zero-add}
use native.Mathlib.Omega.{arith}
use lib.ListN.{length, take, drop}
use lib.Seq.{sets, sets-eq, take_at}
use lib.Dec.{leb}
use borrow.Author.Tests.{le-leb, lt-leb, leb-true}
use Rattle.le.specs.Choice.{pick}
use Rattle.le.proofs.Laws.{sets-append}
use Rattle.chunk.specs.declared.Refusal.{Refusal}
use Rattle.chunk.specs.declared.Refusal.TheVariants.{ShortOutput}
use Rattle.chunk.specs.Refusals.{Answer, Err, Ok}
use Rattle.chunk.specs.Writes.{fitting, written_of, output_of, Writes}
use Rattle.chunk.proofs.Checks.{check-true, check-false}

-- ---- runs put at a place

-- a run after a run
pub puts-next : (s xs ys : List ℕ) (at n : ℕ) → n ≡ at + length xs → sets (sets s at xs) n ys ≡ sets s at (xs ++ ys)
puts-next s xs ys at n e = ap (λ k. sets (sets s at xs) k ys) e ∙ sym (sets-append xs ys s at)

-- a run at the start, and what stands behind it
pub puts-front : (s xs : List ℕ) → length xs ≤ length s → sets s 0 xs ≡ xs ++ drop (length xs) s
puts-front s xs h = rw (sets-eq xs s 0 (omega arith), zero-add)

-- ---- the outcomes

pub no_room : (bs out : List ℕ) → length out < length bs → fitting out (Ok bs) ≡ Err ShortOutput
unfolding fitting
no_room bs out h = check-false (leb (length bs) (length out)) ShortOutput (Ok bs) (lt-leb (length bs) (length out) h)

pub room : (bs out : List ℕ) → length bs ≤ length out → fitting out (Ok bs) ≡ Ok bs
unfolding fitting
room bs out h = check-true (leb (length bs) (length out)) ShortOutput (Ok bs) (le-leb (length bs) (length out) h)

module _ (a : Answer (List ℕ)) (out : List ℕ) where
  pub refuses : (r : Refusal) → a ≡ Err r → Writes a out out (Err r)
  unfolding fitting written_of output_of
  refuses r e =
      record {
        answers = sym (ap (λ (x : Answer (List ℕ)). written_of (fitting out x)) e);
        leaves = sym (ap (λ (x : Answer (List ℕ)). output_of out (fitting out x)) e);
      }

  module _ (bs : List ℕ) (e : a ≡ Ok bs) where
    pub lacks-room : length out < length bs → Writes a out out (Err ShortOutput)
    unfolding written_of output_of
    lacks-room h =
        let f : fitting out a ≡ Err ShortOutput = ap (fitting out) e ∙ no_room bs out h in
        record { answers = sym (ap written_of f); leaves = sym (ap (output_of out) f) }

    pub writes : (exit : List ℕ) (n : ℕ) → n ≡ length bs → n ≤ length out → exit ≡ bs ++ drop n out
        → Writes a out exit (Ok n)
    unfolding written_of output_of
    writes exit n l h x =
        let f : fitting out a ≡ Ok bs = ap (fitting out) e ∙ room bs out (omega arith) in
        record {
          answers = ap Ok l ∙ sym (ap written_of f);
          leaves = x ∙ ap (λ (k : ℕ). bs ++ drop k out) l ∙ sym (ap (output_of out) f);
        }

-- ---- what an answer says

-- with a number of bytes, those bytes stand at the start of the output
pub record Wrote (entry exit : List ℕ) (a : Answer (List ℕ)) (n : ℕ) : Type 0 where
  pub is_given : a ≡ Ok (take n exit)
  pub fits : n ≤ length entry
  pub output : exit ≡ take n exit ++ drop n entry

wrote-fitting : (s : List ℕ) (a : Answer (List ℕ)) (n : ℕ) → Ok n ≡ written_of (fitting s a)
    → Wrote s (output_of s (fitting s a)) a n
unfolding fitting written_of output_of
wrote-fitting s (Err r) n e = absurd (let z : ◌≡◌ {A = ℕ} 0 1 = cc in omega arith)
wrote-fitting s (Ok bs) n e = cases (leb (length bs) (length s)) refl e
  where
    cases : (b : Bool) → leb (length bs) (length s) ≡ b → Ok n ≡ written_of (pick b (Ok bs) (Err ShortOutput))
        → Wrote s (output_of s (pick b (Ok bs) (Err ShortOutput))) (Ok bs) n
    cases true f e =
        let q : n ≡ length bs = cc in
        let front : take n (bs ++ drop (length bs) s) ≡ bs = take_at bs (drop (length bs) s) n (sym q) in
        record {
          is_given = ap Ok (sym front);
          fits = omega (arith, leb-true (length bs) (length s) f);
          output = ap (λ (l : List ℕ). l ++ drop (length bs) s) (sym front) ∙ ap (λ (k : ℕ). take n (bs ++ drop (length bs) s) ++ drop k s) (sym q);
        }
    cases false f e = absurd (let z : ◌≡◌ {A = ℕ} 0 1 = cc in omega arith)

pub wrote : (a : Answer (List ℕ)) (s t : List ℕ) (n : ℕ) → Writes a s t (Ok n) → Wrote s t a n
wrote a s t n w = subst (λ (l : List ℕ). Wrote s l a n) (sym w.leaves) (wrote-fitting s a n w.answers)

-- with a refusal every byte is as it was
pub refusal-keeps : (a : Answer (List ℕ)) (s t : List ℕ) (r : Refusal) → Writes a s t (Err r) → t ≡ s
unfolding written_of output_of
refusal-keeps a s t r w = w.leaves ∙ cases (fitting s a) w.answers
  where
    cases : (x : Answer (List ℕ)) → Err r ≡ written_of x → output_of s x ≡ s
    cases (Err q) e = refl
    cases (Ok bs) e = absurd (let z : ◌≡◌ {A = ℕ} 0 1 = cc in omega arith)
