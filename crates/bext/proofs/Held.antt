-- The parts of a payload as slices: a payload too short has none, and those of an accepted one are its record's.
-- Assumes nothing.
use mathlib.Core.Path.{◌≡◌, refl, sym, ap, ◌∙◌}
use mathlib.Core.Bool.{Bool, true, false}
use mathlib.Core.List.{List, [], ◌++◌, append_assoc}
use Prim.Native.Nat.{ℕ, ◌+◌, ◌≤◌}
use native.Mathlib.Omega.{arith}
use lib.ListN.{length, take, drop, take-append-drop}
use lib.Seq.{take_at, take-length}
use lib.Dec.{leb}
use borrow.Author.Tests.{leb-true}
use Rattle.le.specs.Number.{field}
use Rattle.le.specs.Choice.{pick, every}
use Rattle.le.proofs.Laws.{field-length}
use Rattle.chunk.specs.declared.Refusal.TheVariants.{BadBext}
use Rattle.chunk.specs.Refusals.{Ok}
use Rattle.chunk.proofs.Checks.{check-given, given-inj, pick_true, rule_and}
use Rattle.bext_parts.specs.Parts.{all_zero, text_of, set_of}
use Rattle.bext_parts.proofs.Texts.{text-then}
use Rattle.bext.specs.Records.{Whole, rules_of, whole_in, bext_in}
use Rattle.bext.specs.Slices.{no_parts, parts_in, Stand}

-- a text is the start of its bytes
pub text-start : (s : List ℕ) → take (length (text_of s)) s ≡ text_of s
text-start s =
    let t : List ℕ = text_of s in
    ap (take (length t)) (sym (text-then s)) ∙ take_at t (drop (length t) s) (length t) refl

-- and of what stands from its place on
text-front : (n at : ℕ) (p : List ℕ) → take (length (text_of (field n at p))) (drop at p) ≡ text_of (field n at p)
unfolding field
text-front n at p =
    let q : List ℕ = drop at p in
    let t : List ℕ = text_of (take n q) in
    ap (take (length t))
    (sym (take-append-drop n q)
    ∙ ap (λ l. l ++ drop n q) (sym (text-then (take n q)))
    ∙ append_assoc t (drop (length t) (take n q)) (drop n q))
    ∙ take_at t (drop (length t) (take n q) ++ drop n q) (length t) refl

-- ---- an accepted payload

-- the parts of an accepted payload are its record's fields
pub parts_are : (p : List ℕ) (w : Whole) → bext_in p ≡ Ok w → parts_in p ≡ w
unfolding bext_in rules_of every parts_in
parts_are p w e =
    let b = check-given (every (rules_of p)) BadBext (Ok (whole_in p)) w e in
    pick_true (leb 602 (length p)) (whole_in p) no_parts (rule_and _ _ b.0).0 ∙ given-inj (whole_in p) w b.1

pub accepted-long : (p : List ℕ) (w : Whole) → bext_in p ≡ Ok w → 602 ≤ length p
unfolding bext_in rules_of every
accepted-long p w e =
    let b = check-given (every (rules_of p)) BadBext (Ok (whole_in p)) w e in
    leb-true 602 (length p) (rule_and _ _ b.0).0

-- ---- where the parts stand

stamp-front : (n at : ℕ) (p : List ℕ) → at + n ≤ length p → field (length (set_of (field n at p))) at p ≡ set_of (field n at p)
unfolding set_of pick field
stamp-front n at p h = cases (all_zero (field n at p))
  where
    cases : (b : Bool) → field (length (pick b [] (field n at p))) at p ≡ pick b [] (field n at p)
    cases true = refl
    cases false = ap (λ (k : ℕ). field k at p) (field-length n at p h)

-- of a payload of either length
placed : (part : Whole → List ℕ) (at : ℕ) (p : List ℕ) → part no_parts ≡ []
    → (602 ≤ length p → field (length (part (whole_in p))) at p ≡ part (whole_in p))
    → field (length (part (parts_in p))) at p ≡ part (parts_in p)
unfolding parts_in pick field
placed part at p none stands = cases (leb 602 (length p)) refl
  where
    cases : (b : Bool) → leb 602 (length p) ≡ b
        → field (length (part (pick b (whole_in p) no_parts))) at p ≡ part (pick b (whole_in p) no_parts)
    cases true e = stands (leb-true 602 (length p) e)
    cases false e = ap (λ (l : List ℕ). field (length l) at p) none ∙ sym none

pub stand : (p : List ℕ) → Stand p
unfolding whole_in no_parts field
stand p =
    record {
      description = placed (λ (w : Whole). w.description) 0 p refl (λ h. text-front 256 0 p);
      originator = placed (λ (w : Whole). w.originator) 256 p refl (λ h. text-front 32 256 p);
      reference = placed (λ (w : Whole). w.reference) 288 p refl (λ h. text-front 32 288 p);
      date = placed (λ (w : Whole). w.date) 320 p refl (λ h. stamp-front 10 320 p (omega arith));
      time = placed (λ (w : Whole). w.time) 330 p refl (λ h. stamp-front 8 330 p (omega arith));
      rest = placed (λ (w : Whole). w.rest) 348 p refl (λ h. ap (λ (k : ℕ). field k 348 p) (field-length 254 348 p (omega arith)));
      history = placed (λ (w : Whole). w.history) 602 p refl (λ h. take-length (drop 602 p));
    }
