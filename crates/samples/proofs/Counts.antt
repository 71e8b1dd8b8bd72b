-- The sample count, one law an outcome: none without fact; else fact's own number, and in RF64 alone ds64's third number
-- where fact's is all ones.
-- Assumes nothing.
use mathlib.Core.Path.{◌≡◌, refl}
use mathlib.Core.List.{List}
use Prim.Native.Nat.{ℕ}
use lib.Dec.{eqb}
use borrow.Author.Tests.{eq-eqb, ne_eqb}
use Rattle.std.specs.Prelude.{Some, None}
use Rattle.std.specs.Option.{option_map}
use mathlib.Core.Bool.{Bool, true, false}
use Rattle.le.specs.Number.{number}
use Rattle.le.specs.Choice.{pick}
use Rattle.chunk.specs.Refusals.{Err, Ok}
use Rattle.chunk.specs.declared.Refusal.{Refusal}
use Rattle.chunk.specs.Names.{FACT}
use Rattle.chunk.specs.Fields.{ONES}
use Rattle.chunk.specs.Tables.{count, find}
use Rattle.chunk.proofs.Checks.{pick_true, pick-false, and_then-at, and_then-refused}
use Rattle.form.specs.declared.Form.{Form}
use Rattle.form.specs.declared.Form.TheVariants.{Riff, Rf64, Bw64}
use Rattle.listing.specs.Code.{fact_in}
use Rattle.wave.specs.Scans.{Scan, scan}
use Rattle.samples.specs.Counts.{fact_count, samples_in, samples_of}

-- ---- fact's number

pub fact-riff : (third own : ℕ) → fact_count Riff third own ≡ own
unfolding fact_count
fact-riff third own = refl

-- "In BW64 it is ignored when read"
pub fact-bw64 : (third own : ℕ) → fact_count Bw64 third own ≡ own
unfolding fact_count
fact-bw64 third own = refl

pub fact-third : (third own : ℕ) → own ≡ ONES → fact_count Rf64 third own ≡ third
unfolding fact_count
fact-third third own h = pick_true (eqb own ONES) _ _ (eq-eqb own ONES h)

-- only RF64 looks at ds64
pub fact-other : (f : Form) (third own : ℕ) → (f ≡ Rf64 → ⊥) → fact_count f third own ≡ own
unfolding fact_count
fact-other Riff third own n = refl
fact-other Rf64 third own n = absurd (n refl)
fact-other Bw64 third own n = refl

-- a field that isn't all ones is the sample count in every form
pub fact-own : (f : Form) (third own : ℕ) → (own ≡ ONES → ⊥) → fact_count f third own ≡ own
unfolding fact_count
fact-own Riff third own n = refl
fact-own Rf64 third own n = pick-false _ _ _ (ne_eqb own ONES n)
fact-own Bw64 third own n = refl

-- ---- the question

pub samples-none : (a : Scan) (s : List ℕ) → count FACT a.rows ≡ 0 → samples_in a s ≡ None
unfolding samples_in
samples-none a s h = pick_true (eqb (count FACT a.rows) 0) _ _ (eq-eqb (count FACT a.rows) 0 h)

pub samples-fact : (a : Scan) (s : List ℕ) → (count FACT a.rows ≡ 0 → ⊥)
    → samples_in a s ≡ Some (fact_count a.head.form a.head.ds64.third (number 4 (find FACT a.rows).place s))
unfolding samples_in
samples-fact a s h = pick-false (eqb (count FACT a.rows) 0) _ _ (ne_eqb (count FACT a.rows) 0 h)

-- fact's number, where the file has one
pub samples-map : (a : Scan) (s : List ℕ)
    → samples_in a s ≡ option_map (λ p. fact_count a.head.form a.head.ds64.third (number 4 p s)) (fact_in a.rows)
unfolding samples_in fact_in
samples-map a s = go (eqb (count FACT a.rows) 0)
  where
    go : (b : Bool)
        → pick b None (Some (fact_count a.head.form a.head.ds64.third (number 4 (find FACT a.rows).place s)))
        ≡ option_map (λ p. fact_count a.head.form a.head.ds64.third (number 4 p s)) (pick b None (Some (find FACT a.rows).place))
    go true = refl
    go false = refl

pub samples-given : (s : List ℕ) (a : Scan) → scan s ≡ Ok a → samples_of s ≡ Ok (samples_in a s)
unfolding samples_of
samples-given s a e = and_then-at (scan s) _ a e

-- "asked of a file with the scan's refusals"
pub samples-refused : (s : List ℕ) (r : Refusal) → scan s ≡ Err r → samples_of s ≡ Err r
unfolding samples_of
samples-refused s r e = and_then-refused (scan s) _ r e
