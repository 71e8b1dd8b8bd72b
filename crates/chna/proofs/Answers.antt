-- The laws of the reader's and the writer's answers, one for each outcome.
-- Assumes nothing.
use mathlib.Core.Path.{◌≡◌, refl, sym, ap, ◌∙◌}
use mathlib.Core.Bool.{true, false}
use mathlib.Core.List.{List}
use Prim.Native.Nat.{ℕ, ◌-◌, ◌/◌, ◌%◌, ◌≤◌, ◌<◌}
use native.Mathlib.Omega.{arith}
use lib.ListN.{length, take, drop, length-drop}
use lib.Seq.{take_all}
use borrow.Author.Tests.{le-leb, lt-leb, eq-eqb, ne_eqb}
use Rattle.le.specs.Number.{number}
use Rattle.chunk.specs.declared.Refusal.TheVariants.{BadChna}
use Rattle.chunk.specs.Refusals.{Err, Ok}
use Rattle.chunk.proofs.Checks.{given-inj, check-given, check-true, check-false}
use Rattle.chna.specs.Records.{Whole, whole_of, whole_in, whole_good, length_good, chna_in, numbers_of, read_as}
use Rattle.chna.proofs.Counts.{entries-count}

-- ---- the length of a payload

pub length-good : (n : ℕ) → 4 ≤ n → (n - 4) % 40 ≡ 0 → length_good n ≡ true
unfolding length_good
length-good n h e = simp (le-leb 4 n h, eq-eqb ((n - 4) % 40) 0 e)

pub length-short : (n : ℕ) → n < 4 → length_good n ≡ false
unfolding length_good
length-short n h = simp (lt-leb 4 n h)

pub length-ragged : (n : ℕ) → 4 ≤ n → ((n - 4) % 40 ≡ 0 → ⊥) → length_good n ≡ false
unfolding length_good
length-ragged n h e = simp (le-leb 4 n h, ne_eqb ((n - 4) % 40) 0 e)

-- ---- the reader's answer

pub bad-length : (channels : ℕ) (p : List ℕ) → length_good (length p) ≡ false → Err BadChna ≡ read_as (chna_in channels p)
unfolding chna_in read_as
bad-length channels p e = sym (ap read_as (check-false (length_good (length p)) BadChna _ e))

pub bad-record : (channels : ℕ) (p : List ℕ) → length_good (length p) ≡ true → whole_good channels (whole_in p) ≡ false
    → Err BadChna ≡ read_as (chna_in channels p)
unfolding chna_in read_as
bad-record channels p e f =
    sym (ap read_as (check-true (length_good (length p)) BadChna _ e ∙ check-false (whole_good channels (whole_in p)) BadChna _ f))

pub good-record : (channels : ℕ) (p : List ℕ) → length_good (length p) ≡ true → whole_good channels (whole_in p) ≡ true
    → chna_in channels p ≡ Ok (whole_in p)
unfolding chna_in
good-record channels p e f =
    check-true (length_good (length p)) BadChna _ e ∙ check-true (whole_good channels (whole_in p)) BadChna _ f

-- an accepted payload
pub record Accepted (channels : ℕ) (p : List ℕ) (w : Whole) : Type 0 where
  pub long : length_good (length p) ≡ true
  pub good : whole_good channels (whole_in p) ≡ true
  pub is : whole_in p ≡ w

pub accepted : (channels : ℕ) (p : List ℕ) (w : Whole) → chna_in channels p ≡ Ok w → Accepted channels p w
unfolding chna_in
accepted channels p w e =
    let f = check-given (length_good (length p)) BadChna _ w e in
    let g = check-given (whole_good channels (whole_in p)) BadChna _ w f.1 in
    record { long = f.0; good = g.0; is = given-inj (whole_in p) w g.1 }

-- the entries, as the code lends them
pub tail : (p : List ℕ) → drop 4 p ≡ take (length p - 4) (drop 4 p)
tail p = sym (take_all (length p - 4) (drop 4 p) (omega (arith, length-drop 4 p)))

-- the record as the reader gives it
pub record-read : (channels : ℕ) (p : List ℕ) (tracks uids : ℕ) → length_good (length p) ≡ true → whole_good channels (whole_in p) ≡ true
    → tracks ≡ number 2 0 p → uids ≡ number 2 2 p
    → Ok (record { tracks = tracks; uids = uids; entries = length (take (length p - 4) (drop 4 p)) / 40 }) ≡ read_as (chna_in channels p)
unfolding read_as numbers_of whole_in whole_of
record-read channels p tracks uids e f t u = rw (good-record channels p e f, t, u, sym (tail p), entries-count (drop 4 p)) refl
