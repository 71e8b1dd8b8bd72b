-- What an input that is not refused with 16 tells, and the converse.
-- Assumes nothing.
use mathlib.Core.Path.{◌≡◌, refl, ap}
use mathlib.Core.Bool.{Bool, true, false, ◌||◌}
use mathlib.Core.List.{List}
use Prim.Native.Nat.{ℕ, ◌%◌, ◌≤◌}
use native.Mathlib.Omega.{arith}
use lib.ListN.{length, drop, length-drop}
use lib.Dec.{eqb}
use borrow.Author.Tests.{ne_eqb, eqb-true, eqb-false}
use Rattle.std.specs.Result.{is_ok}
use Rattle.chunk.specs.Refusals.{Answer, Err, Ok}
use Rattle.chunk.proofs.Checks.{true-false, rule_and, or-false}
use Rattle.fmt.specs.declared.Format.{Format}
use Rattle.fmt.specs.Writing.{writable, format_bytes}
use Rattle.fmt.proofs.Payloads.{out_of}
use Rattle.fmt.proofs.RoundTrip.{reads-back}
use Rattle.fmt.proofs.Laws.{block-least}
use Rattle.bext.specs.Records as bext
use Rattle.bext.specs.Records.{bext_in}
use Rattle.chna.specs.Records as chna
use Rattle.chna.specs.Records.{Whole, whole_in, whole_of, chna_in}
use Rattle.chna.proofs.Answers as answers
use Rattle.chna.proofs.Counts.{entries-count}
use Rattle.chna.proofs.Back.{sound}
use Rattle.file.specs.Files.{input_good}

-- an answer that is accepted is given
pub accepted-given : {A : Type 0} (x : Answer A) → is_ok x ≡ true → (a : A) × (x ≡ Ok a)
accepted-given (Err r) e = absurd (true-false false e refl)
accepted-given (Ok a) e = (a, refl)

pub given-accepted : {A : Type 0} (x : Answer A) (a : A) → x ≡ Ok a → is_ok x ≡ true
given-accepted x a e = ap is_ok e

-- the rules of an input, one by one
pub record Good (f : Format) (b c a : List ℕ) : Type 0 where
  pub fmt : writable f ≡ true
  pub sixteen : f.size ≡ 16
  pub bext : (length b ≡ 0 → ⊥) → is_ok (bext_in b) ≡ true
  pub chna : (length c ≡ 0 → ⊥) → is_ok (chna_in f.channels c) ≡ true
  pub blocks : length a % f.block ≡ 0

pub good : (f : Format) (b c a : List ℕ) → input_good f b c a ≡ true → Good f b c a
unfolding input_good
good f b c a e =
    let c1 = rule_and (writable f) _ e in
    let c2 = rule_and (eqb f.size 16) _ c1.1 in
    let c3 = rule_and (eqb (length b) 0 || is_ok (bext_in b)) _ c2.1 in
    let c4 = rule_and (eqb (length c) 0 || is_ok (chna_in f.channels c)) _ c3.1 in
    let c5 = rule_and (eqb (length a % f.block) 0) _ c4.1 in
    record {
      fmt = c1.0;
      sixteen = eqb-true f.size 16 c2.0;
      bext = λ h. or-false (eqb (length b) 0) _ c3.0 (ne_eqb (length b) 0 h);
      chna = λ h. or-false (eqb (length c) 0) _ c4.0 (ne_eqb (length c) 0 h);
      blocks = eqb-true (length a % f.block) 0 c5.0;
    }

pub block-least-of : (f : Format) → writable f ≡ true → 1 ≤ f.block
block-least-of f h = block-least (format_bytes f) f (reads-back f (format_bytes f) (out_of f h))

-- ---- chna's payload is short

pub chna-short : (f : Format) (b c a : List ℕ) → Good f b c a → length c ≤ 41003
unfolding whole_in whole_of
chna-short f b c a g = go (eqb (length c) 0) refl
  where
    go : (x : Bool) → eqb (length c) 0 ≡ x → length c ≤ 41003
    go true e = omega (arith, eqb-true (length c) 0 e)
    go false e =
        let w = accepted-given (chna_in f.channels c) (g.chna (eqb-false (length c) 0 e)) in
        let k = answers.accepted f.channels c w.0 w.1 in
        let s = sound f.channels (whole_in c) k.good in
        omega (arith, s.few, entries-count (drop 4 c), length-drop 4 c)

-- ---- the tests of the code

pub bext_read : (x : Answer bext.Whole) → is_ok (bext.read_as x) ≡ is_ok x
unfolding bext.read_as
bext_read (Err r) = refl
bext_read (Ok w) = refl

pub chna_read : (x : Answer Whole) → is_ok (chna.read_as x) ≡ is_ok x
unfolding chna.read_as
chna_read (Err r) = refl
chna_read (Ok w) = refl
