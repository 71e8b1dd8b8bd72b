-- How the answer of a writer becomes the answer of its export. The writer is lent all of the output where there is a word to
-- count in; else none of it, and then refuses by itself.
-- Assumes nothing.
use mathlib.Core.Path.{◌≡◌, refl, sym, ◌∙◌, ap, ap₂, subst}
use mathlib.Core.List.{List, [], ◌∷◌, ◌++◌, append-nil}
use mathlib.Core.Bool.{Bool, true, false}
use Prim.Native.Nat.{ℕ, ◌≤◌}
use native.Mathlib.Omega.{arith}
use lib.ListN.{length, take, drop, get_or}
use lib.Seq.{sets, take-length, drop-length, take_at}
use lib.Dec.{eqb, leb}
use borrow.Author.Tests.{le-leb, lt-leb, leb-true, ne_eqb}
use Rattle.le.specs.Choice.{pick}
use Rattle.chunk.specs.declared.Refusal.{Refusal}
use Rattle.chunk.specs.declared.Refusal.TheVariants.{ShortOutput}
use Rattle.chunk.specs.Refusals.{Answer, Err, Ok, number_of, check, and_then}
use Rattle.chunk.specs.Writes.{fitting, written_of, written_values, output_of}
use Rattle.chunk.proofs.Checks.{given-inj, pick-false, picked, check-given, check-true, check-false, and_then-given}
use Rattle.words.proofs.Numbers.{refusal-number}
use Rattle.words.specs.Answers.{counted, WritesOut}
use Rattle.words.specs.Code.{Tells}
pub use Rattle.words.specs.Code.{Filled}

-- ---- with a word to count in, and without one

once : (b : Bool) (y : Answer (List ℕ)) → b ≡ true → and_then y (λ bs. check b ShortOutput (Ok bs)) ≡ y
unfolding and_then
once b (Err r) e = refl
once b (Ok bs) e = check-true b ShortOutput (Ok bs) e

never : (out bs : List ℕ) (b : Bool) → and_then (check b ShortOutput (Ok bs)) (λ (bs : List ℕ). check (leb 1 0) ShortOutput (Ok bs)) ≡ Err ShortOutput
unfolding and_then check
never out bs true = refl
never out bs false = refl

with-word : (out : List ℕ) (x : ℕ) (xs : List ℕ) (a : Answer (List ℕ)) → counted out (x ∷ xs) a ≡ fitting out a
unfolding counted
with-word out x xs a = once (leb 1 (length (x ∷ xs))) (fitting out a) (le-leb 1 (length (x ∷ xs)) (omega arith))

-- both refuse, and for the same reason
record Both (out : List ℕ) (a : Answer (List ℕ)) : Type 0 where
  why : Refusal
  writer : fitting [] a ≡ Err why
  export : counted out [] a ≡ Err why

without : (out : List ℕ) (a : Answer (List ℕ)) → Filled a → Both out a
unfolding fitting counted
without out (Err r) h = record { why = r; writer = refl; export = refl }
without out (Ok bs) h =
    record {
      why = ShortOutput;
      writer = check-false (leb (length bs) 0) ShortOutput (Ok bs) (lt-leb (length bs) 0 (h bs refl));
      export = never out bs (leb (length bs) (length out));
    }

-- ---- a writer that is lent a part of the output

pub record Lent (out w : List ℕ) (n : ℕ) (a : Answer (List ℕ)) : Type 0 where
  pub answer : written_of (fitting (take n out) a) ≡ written_of (counted out w a)
  pub output : output_of (take n out) (fitting (take n out) a) ++ drop n out ≡ output_of out (counted out w a)

pub lent : (out w : List ℕ) (n : ℕ) (a : Answer (List ℕ)) → Filled a → n ≡ pick (eqb (length w) 0) 0 (length out) → Lent out w n a
unfolding pick output_of
lent out [] n a h e = subst (λ (n : ℕ). Lent out [] n a) (sym e) none
  where
    both : Both out a
    both = without out a h

    none : Lent out [] 0 a
    none =
        record {
          answer = ap written_of (both.writer ∙ sym both.export);
          output = ap (λ (y : Answer (List ℕ)). output_of [] y ++ out) both.writer ∙ sym (ap (output_of out) both.export);
        }
lent out (x ∷ xs) n a h e =
    subst (λ (n : ℕ). Lent out (x ∷ xs) n a) (sym (e ∙ pick-false _ _ _ (ne_eqb (length (x ∷ xs)) 0 (λ z. omega (arith, z))))) all
  where
    all : Lent out (x ∷ xs) (length out) a
    all =
        record {
          answer = ap (λ (l : List ℕ). written_of (fitting l a)) (take-length out) ∙ sym (ap written_of (with-word out x xs a));
          output =
              ap (λ (l : List ℕ). output_of (take (length out) out) (fitting (take (length out) out) a) ++ l) (drop-length out)
              ∙ append-nil _
              ∙ ap (λ (l : List ℕ). output_of l (fitting l a)) (take-length out)
              ∙ sym (ap (output_of out) (with-word out x xs a));
        }

-- the part is of the output
pub part : (out w : List ℕ) (n : ℕ) → n ≡ pick (eqb (length w) 0) 0 (length out) → n ≤ length out
part out w n e = subst (λ (k : ℕ). k ≤ length out) (sym e) (picked (λ (k : ℕ). k ≤ length out) (eqb (length w) 0) 0 (length out) (λ h. omega arith) (λ h. omega arith))

-- ---- the export

pub wrote : (a : Answer (List ℕ)) (out w u w' : List ℕ) (n : ℕ) (x : Answer ℕ) (r : ℕ)
    → Filled a → n ≡ pick (eqb (length w) 0) 0 (length out)
    → x ≡ written_of (fitting (take n out) a) → u ≡ output_of (take n out) (fitting (take n out) a)
    → Tells x w r w' → WritesOut a out w r (u ++ drop n out) w'
wrote a out w u w' n x r h e answers leaves t =
    let l = lent out w n a h e in
    record {
      number = t.number ∙ ap number_of (answers ∙ l.answer);
      bytes = ap (λ (s : List ℕ). s ++ drop n out) leaves ∙ l.output;
      words = t.words ∙ ap (λ (y : Answer ℕ). sets w 0 (written_values y)) (answers ∙ l.answer);
    }

-- what is refused before the writer is called
pub refuses : (a : Answer (List ℕ)) (why : Refusal) (out w w' : List ℕ) (r : ℕ)
    → a ≡ Err why → Tells (Err why) w r w' → WritesOut a out w r out w'
unfolding counted fitting written_of output_of
refuses a why out w w' r e t =
    let q : counted out w a ≡ Err why = ap (counted out w) e in
    record {
      number = t.number ∙ sym (ap (λ (y : Answer (List ℕ)). number_of (written_of y)) q);
      bytes = sym (ap (output_of out) q);
      words = t.words ∙ sym (ap (λ (y : Answer (List ℕ)). sets w 0 (written_values (written_of y))) q);
    }

-- ---- what the export says

-- a refusal changes no byte, and its word is 0
pub refused-out : (a : Answer (List ℕ)) (out w : List ℕ) (r : ℕ) (out' w' : List ℕ) → WritesOut a out w r out' w' → (r ≡ 0 → ⊥)
    → (out' ≡ out) × (w' ≡ sets w 0 (0 ∷ []))
unfolding written_of output_of written_values
refused-out a out w r out' w' t h = cases (counted out w a) t.number t.bytes t.words
  where
    cases : (x : Answer (List ℕ)) → r ≡ number_of (written_of x) → out' ≡ output_of out x → w' ≡ sets w 0 (written_values (written_of x))
        → (out' ≡ out) × (w' ≡ sets w 0 (0 ∷ []))
    cases (Err why) n b v = (b, v)
    cases (Ok bs) n b v = absurd (h n)

-- what was written: as many bytes as the word says, at the start of the output
pub record WroteOut (a : Answer (List ℕ)) (out out' w' : List ℕ) : Type 0 where
  pub is_given : a ≡ Ok (take (get_or w' 0 0) out')
  pub fits : get_or w' 0 0 ≤ length out
  pub output : out' ≡ take (get_or w' 0 0) out' ++ drop (get_or w' 0 0) out

-- bytes that fit, and a word to count them in
record Counted (a : Answer (List ℕ)) (out w bs : List ℕ) : Type 0 where
  is : a ≡ Ok bs
  room : length bs ≤ length out
  word : 1 ≤ length w

counted-given : (a : Answer (List ℕ)) (out w bs : List ℕ) → counted out w a ≡ Ok bs → Counted a out w bs
unfolding counted fitting
counted-given a out w bs e =
    let f = and_then-given _ _ bs e in
    let g = check-given _ _ _ bs f.2 in
    let h = and_then-given a _ f.0 f.1 in
    let k = check-given _ _ _ f.0 h.2 in
    let same : h.0 ≡ bs = given-inj _ _ k.1 ∙ given-inj _ _ g.1 in
    record {
      is = h.1 ∙ ap Ok same;
      room = subst (λ (l : List ℕ). length l ≤ length out) same (leb-true _ _ k.0);
      word = leb-true 1 (length w) g.0;
    }

first_word : (w : List ℕ) (n : ℕ) → 1 ≤ length w → get_or (sets w 0 (n ∷ [])) 0 0 ≡ n
first_word [] n h = absurd (omega (arith, h))
first_word (v ∷ w) n h = refl

pub wrote-out : (a : Answer (List ℕ)) (out w : List ℕ) (out' w' : List ℕ) → WritesOut a out w 0 out' w' → WroteOut a out out' w'
unfolding written_of output_of written_values
wrote-out a out w out' w' t = cases (counted out w a) refl t.number t.bytes t.words
  where
    cases : (x : Answer (List ℕ)) → counted out w a ≡ x → 0 ≡ number_of (written_of x) → out' ≡ output_of out x → w' ≡ sets w 0 (written_values (written_of x))
        → WroteOut a out out' w'
    cases (Err why) e n b v = absurd (omega (arith, n, refusal-number why))
    cases (Ok bs) e n b v =
        let c = counted-given a out w bs e in
        let k : get_or w' 0 0 ≡ length bs = ap (λ (l : List ℕ). get_or l 0 0) v ∙ first_word w (length bs) c.word in
        let front : take (get_or w' 0 0) out' ≡ bs =
        ap (take (get_or w' 0 0)) b ∙ take_at bs (drop (length bs) out) (get_or w' 0 0) (sym k) in
        record {
          is_given = c.is ∙ ap Ok (sym front);
          fits = omega (arith, k, c.room);
          output = b ∙ ap₂ (λ (l : List ℕ) (m : ℕ). l ++ drop m out) (sym front) (sym k);
        }

-- bytes for which there is room, and a word
pub writes-given : (a : Answer (List ℕ)) (bs out w : List ℕ) (r : ℕ) (out' w' : List ℕ) → a ≡ Ok bs → length bs ≤ length out → 1 ≤ length w
    → WritesOut a out w r out' w' → (r ≡ 0) × (take (get_or w' 0 0) out' ≡ bs)
unfolding counted fitting and_then written_of output_of written_values
writes-given a bs out w r out' w' e room word t =
    let fit : fitting out a ≡ Ok bs =
    ap (fitting out) e ∙ check-true (leb (length bs) (length out)) ShortOutput (Ok bs) (le-leb (length bs) (length out) room) in
    let all : counted out w a ≡ Ok bs =
    ap (λ (x : Answer (List ℕ)). and_then x (λ (l : List ℕ). check (leb 1 (length w)) ShortOutput (Ok l))) fit
    ∙ check-true (leb 1 (length w)) ShortOutput (Ok bs) (le-leb 1 (length w) word) in
    let k : get_or w' 0 0 ≡ length bs =
    ap (λ (l : List ℕ). get_or l 0 0) (t.words ∙ ap (λ (x : Answer (List ℕ)). sets w 0 (written_values (written_of x))) all)
    ∙ first_word w (length bs) word in (
      t.number ∙ ap (λ (x : Answer (List ℕ)). number_of (written_of x)) all,
      ap (take (get_or w' 0 0)) (t.bytes ∙ ap (output_of out) all) ∙ take_at bs (drop (length bs) out) (get_or w' 0 0) (sym k),
    )
