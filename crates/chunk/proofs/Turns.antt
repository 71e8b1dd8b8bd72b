-- The document's walk goes on from a whole header as the code's step says: one equation for all outcomes.
-- Assumes nothing.
use mathlib.Core.Path.{◌≡◌, refl, sym, ap, ap₂, ◌∙◌, subst}
use mathlib.Core.List.{List, [], ◌∷◌}
use Prim.Native.Nat.{ℕ, suc, ◌+◌, ◌-◌, ◌%◌, ◌≤◌, ◌<◌}
use native.Mathlib.Omega.{arith}
use lib.ListN.{length}
use lib.Dec.{eqb, ltb, leb}
use borrow.Author.Tests.{ne_eqb, lt-ltb, le-ltb, le-leb, lt-leb, eqb-true, eqb-false, ltb-true, ltb-false, leb-true, leb-false}
use Rattle.le.specs.Number.{number}
use Rattle.chunk.specs.declared.Entry.{Entry}
use Rattle.chunk.specs.declared.Header.{Header}
use Rattle.chunk.specs.declared.TrueSize.{TrueSize}
use Rattle.chunk.specs.declared.Refusal.TheVariants.{CutHeader, TooMany, PastEnd}
use Rattle.chunk.specs.declared.Step.{Step}
use Rattle.chunk.specs.declared.Step.TheVariants as code
use Rattle.chunk.specs.Refusals.{Answer, Verdict, Err, Ok}
use Rattle.chunk.specs.Walks.{Stop, Rule, Walked, entry_of, past, placed, sized, step, step_at, walk}
use Rattle.chunk.specs.Code.{header_of, HeaderAt, Due, ends_at, placed_in, found_as, step_on, walk_after, full}
use Rattle.chunk.proofs.Checks.{pick_true, pick-false, picked}
use Rattle.chunk.proofs.Laid.{past-aligned, step-sized, step_end, walk-stop, walk-chunk}

pub header_is : (place : ℕ) (s : List ℕ) (h : Header) → HeaderAt place s h → h ≡ header_of place s
unfolding header_of
header_is place s h a = λ i. record { name = a.name i; field = a.field i }

-- ---- where a chunk ends

pub ends-past : (len next : ℕ) (e : Entry) → len < next → ends_at len next e ≡ code.Stop PastEnd
unfolding ends_at
ends-past len next e h = pick_true _ _ _ (lt-ltb len next h)

pub placed-whole : (len : ℕ) (e : Entry) → past e + 8 ≤ len → placed_in len e ≡ code.Chunk e (past e + 8)
unfolding placed_in
placed-whole len e h = pick_true _ _ _ (le-leb (past e + 8) len h)

pub placed-ends : (len : ℕ) (e : Entry) → len < past e + 8 → placed_in len e ≡ ends_at len (past e) e
unfolding placed_in
placed-ends len e h = pick-false _ _ _ (lt-leb (past e + 8) len h)

-- ---- the walk from a whole header

pub step_cut : (rule : Rule) (s : List ℕ) (room at : ℕ) → at < length s → length s < at + 8 → step_at rule s room at ≡ Stop (Err CutHeader)
unfolding step_at step
step_cut rule s room at h k =
    pick-false (eqb at (length s)) _ _ (ne_eqb at (length s) (omega arith))
    ∙ pick_true (ltb (length s) (at + 8)) _ _ (lt-ltb (length s) (at + 8) k)

pub walk-full : (rule : Rule) (s : List ℕ) (at : ℕ) → at + 8 ≤ length s → walk rule s 0 at ≡ full at
unfolding step_at step full
walk-full rule s at h =
    walk-stop rule s 0 at (Err TooMany)
    (pick-false (eqb at (length s)) _ _ (ne_eqb at (length s) (omega arith))
    ∙ pick-false (ltb (length s) (at + 8)) _ _ (le-ltb (length s) (at + 8) h))

-- a chunk that ends inside the file is shown, and then what the walk from past it shows
shown : (rule : Rule) (s : List ℕ) (room at : ℕ) (size : TrueSize) → at + 8 ≤ length s
    → rule at (number 4 at s) (number 4 (at + 4) s) ≡ Ok size → past (entry_of (at + 8) (number 4 at s) size) ≤ length s
    → walk rule s (suc room) at
    ≡ record {
      rows = entry_of (at + 8) (number 4 at s) size ∷ (walk rule s room (past (entry_of (at + 8) (number 4 at s) size))).rows;
      end = (walk rule s room (past (entry_of (at + 8) (number 4 at s) size))).end;
    }
unfolding sized placed
shown rule s room at size h e k =
    walk-chunk rule s room at _ _
    (step-sized rule s room at h ∙ ap (sized (length s) at (number 4 at s)) e ∙ pick_true _ _ _ (le-leb _ _ k))

over : (rule : Rule) (s : List ℕ) (room at : ℕ) (size : TrueSize) → at + 8 ≤ length s
    → rule at (number 4 at s) (number 4 (at + 4) s) ≡ Ok size → length s < past (entry_of (at + 8) (number 4 at s) size)
    → walk rule s (suc room) at ≡ record { rows = []; end = Err PastEnd }
unfolding sized placed
over rule s room at size h e k =
    walk-stop rule s (suc room) at (Err PastEnd)
    (step-sized rule s room at h ∙ ap (sized (length s) at (number 4 at s)) e ∙ pick-false _ _ _ (lt-leb _ _ k))

-- from a header at an offset
from-header : (rule : Rule) (s : List ℕ) (room at : ℕ) → at + 8 ≤ length s
    → walk rule s (suc room) at
    ≡ walk_after (found_as (length s) (at + 8) (number 4 at s) (rule at (number 4 at s) (number 4 (at + 4) s))) (walk rule s room)
unfolding found_as placed_in ends_at walk_after sized
from-header rule s room at h = go (rule at (number 4 at s) (number 4 (at + 4) s)) refl
  where
    P : Step → Type 0
    P x = walk rule s (suc room) at ≡ walk_after x (walk rule s room)

    shows : (e : Entry) (v : Verdict) → walk rule s (suc room) at ≡ record { rows = e ∷ (walk rule s room (past e)).rows; end = (walk rule s room (past e)).end }
        → walk rule s room (past e) ≡ record { rows = []; end = v } → walk rule s (suc room) at ≡ record { rows = e ∷ []; end = v }
    shows e v p q = p ∙ ap (λ (x : Walked). record { rows = e ∷ x.rows; end = x.end }) q

    go : (x : Answer TrueSize) → rule at (number 4 at s) (number 4 (at + 4) s) ≡ x
        → walk rule s (suc room) at ≡ walk_after (found_as (length s) (at + 8) (number 4 at s) x) (walk rule s room)
    go (Err r) q =
        walk-stop rule s (suc room) at (Err r)
        (step-sized rule s room at h ∙ ap (sized (length s) at (number 4 at s)) q)
    go (Ok size) q =
        let e : Entry = entry_of (at + 8) (number 4 at s) size in
        picked P (leb (past e + 8) (length s)) _ _
        (λ w.
        let k : past e + 8 ≤ length s = leb-true _ _ w in
        let b : past e ≡ past e + 8 - 8 = omega arith in
        shown rule s room at size h q (omega arith)
        ∙ ap (λ (n : ℕ). record { rows = e ∷ (walk rule s room n).rows; end = (walk rule s room n).end }) b)
        λ w'.
        let u : length s < past e + 8 = leb-false _ _ w' in
        picked P (ltb (length s) (past e)) _ _
        (λ w. over rule s room at size h q (ltb-true _ _ w)) λ w.
        let k : past e ≤ length s = ltb-false _ _ w in
        picked P (eqb (length s) (past e)) _ _
        (λ v. shows e (Ok tt) (shown rule s room at size h q k) (walk-stop rule s room (past e) (Ok tt) (step_end rule s room (past e) (sym (eqb-true _ _ v))))) λ v.
        let n : length s ≡ past e → ⊥ = eqb-false _ _ v in
        shows e (Err CutHeader) (shown rule s room at size h q k) (walk-stop rule s room (past e) (Err CutHeader) (step_cut rule s room (past e) (omega arith) (omega (arith, u))))

-- from the header ahead of a place
pub turn : (rule : Rule) (s : List ℕ) (room place : ℕ) → Due s place
    → walk rule s (suc room) (place - 8) ≡ walk_after (step_on rule s place) (walk rule s room)
unfolding step_on
turn rule s room place d =
    let p : place - 8 + 8 ≡ place = omega (arith, d.start) in
    let q : place - 8 + 4 ≡ place - 4 = omega (arith, d.start) in
    from-header rule s room (place - 8) (omega (arith, d.start, d.whole))
    ∙ ap₂ (λ (a b : ℕ). walk_after (found_as (length s) a (number 4 (place - 8) s) (rule (place - 8) (number 4 (place - 8) s) (number 4 b s))) (walk rule s room)) p q

-- a whole header follows a chunk
pub turn-due : (rule : Rule) (s : List ℕ) (place : ℕ) (e : Entry) (to : ℕ) → place % 2 ≡ 0 → step_on rule s place ≡ code.Chunk e to → Due s to
unfolding step_on found_as placed_in ends_at
turn-due rule s place e to h q = go (rule (place - 8) (number 4 (place - 8) s) (number 4 (place - 4) s)) q
  where
    P : Step → Type 0
    P x = x ≡ code.Chunk e to → Due s to

    go : (x : Answer TrueSize) → found_as (length s) place (number 4 (place - 8) s) x ≡ code.Chunk e to → Due s to
    go (Err r) p = absurd (let z : ◌≡◌ {A = ℕ} 0 1 = cc in omega arith)
    go (Ok size) p =
        let f : Entry = entry_of place (number 4 (place - 8) s) size in
        (picked P (leb (past f + 8) (length s)) _ _
        (λ w p.
        let t : past f + 8 ≡ to = cc in
        let a = past-aligned f h in
        subst (Due s) t
        (record { start = omega arith; whole = leb-true _ _ w; even = omega (arith, a) })) λ _.
        picked P (ltb (length s) (past f)) _ _ (λ _ p. absurd (let z : ◌≡◌ {A = ℕ} 0 1 = cc in omega arith)) λ _.
        picked P (eqb (length s) (past f)) _ _ (λ _ p. absurd (let z : ◌≡◌ {A = ℕ} 0 1 = cc in omega arith))
        (λ _ p. absurd (let z : ◌≡◌ {A = ℕ} 0 1 = cc in omega arith))) p
