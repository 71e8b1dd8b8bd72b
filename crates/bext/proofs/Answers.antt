-- What the reader answers by the rules of a payload: one that is broken is no record, and where none is the parts tell it.
-- Assumes nothing.
use mathlib.Core.Path.{◌≡◌, refl}
use mathlib.Core.Bool.{Bool, true, false, not, ◌||◌}
use mathlib.Core.List.{List, [], ◌∷◌}
use Prim.Native.Nat.{ℕ, zero, suc, ◌-◌, ◌≤◌}
use native.Mathlib.Omega.{arith}
use lib.ListN.{length, take, drop, get_or, length-drop}
use lib.Seq.{take_all}
use lib.Dec.{eqb}
use borrow.Author.Tests.{le-leb}
use Rattle.std.specs.Prelude.{Some, None}
use Rattle.le.specs.Number.{field, number}
use Rattle.std.specs.Option.{ok_or}
use Rattle.le.specs.Choice.{pick, every}
use Rattle.chunk.specs.declared.Refusal.TheVariants.{BadBext}
use Rattle.chunk.specs.Refusals.{Err, Ok}
use Rattle.chunk.proofs.Checks.{true-false}
use Rattle.bext_parts.specs.Parts.{all_zero, text_of, text_good, date_good, time_good, set_of, rest_good}
use Rattle.bext_parts.proofs.Parts.{Kept}
use Rattle.bext.specs.Records.{rules_of, whole_in, numbers_of, bext_in, read_as}
use Rattle.bext.specs.Code.{numbers_in}

-- a part that goes to the end
pub to_the_end : (n : ℕ) (s : List ℕ) → take (length s - n) (drop n s) ≡ drop n s
to_the_end n s = take_all (length s - n) (drop n s) (rw (length-drop n s) (omega arith))

-- a list of rules fails where one does
one-fails : (bs : List Bool) (k : ℕ) → get_or bs k true ≡ false → every bs ≡ false
unfolding every
one-fails [] k e = e
one-fails (true ∷ bs) zero e = absurd (true-false true refl e)
one-fails (true ∷ bs) (suc k) e = one-fails bs k e
one-fails (false ∷ bs) k e = refl

pub rule-broken : (p : List ℕ) (k : ℕ) → get_or (rules_of p) k true ≡ false → None ≡ numbers_in p
unfolding numbers_in
rule-broken p k e = rw (one-fails (rules_of p) k e)

pub rules-kept : (p : List ℕ) {d o r y t v f h : ℕ} → 602 ≤ length p
    → Kept (text_good (field 256 0 p)) (length (text_of (field 256 0 p))) d
    → Kept (text_good (field 32 256 p)) (length (text_of (field 32 256 p))) o
    → Kept (text_good (field 32 288 p)) (length (text_of (field 32 288 p))) r
    → Kept (all_zero (field 10 320 p) || date_good (field 10 320 p)) (length (set_of (field 10 320 p))) y
    → Kept (all_zero (field 8 330 p) || time_good (field 8 330 p)) (length (set_of (field 8 330 p))) t
    → v ≡ number 2 346 p → rest_good v (field 254 348 p) ≡ true
    → Kept (text_good (drop 602 p)) (length (text_of (drop 602 p))) h
    → f ≡ number 8 338 p
    → Some
    record {
      description_len = d;
      originator_len = o;
      reference_len = r;
      date_set = not (eqb y 0);
      time_set = not (eqb t 0);
      timeref = f;
      version = v;
      history_len = h;
    }
    ≡ numbers_in p
unfolding numbers_in rules_of every numbers_of whole_in
rules-kept p l d o r y t v g h f =
    let rest = rw v at g in
    rw (
      d.is,
      o.is,
      r.is,
      y.is,
      t.is,
      v,
      f,
      h.is,
      le-leb 602 (length p) l,
      d.holds,
      o.holds,
      r.holds,
      y.holds,
      t.holds,
      rest,
      h.holds,
    )

-- a payload that has no record is refused
pub answered : (p : List ℕ) → ok_or (numbers_in p) BadBext ≡ read_as (bext_in p)
unfolding numbers_in bext_in read_as
answered p = which (every (rules_of p))
  where
    which : (b : Bool) → ok_or (pick b (Some (numbers_of (whole_in p))) None) BadBext ≡ read_as (pick b (Ok (whole_in p)) (Err BadBext))
    which true = refl
    which false = refl
