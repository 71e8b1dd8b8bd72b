-- The head of a file: what checks 1 to 5 tell of an accepted one, and what has to hold for them to accept. A chain of
-- checks is inverted link by link, and built link by link.
-- Assumes nothing.
use mathlib.Core.Path.{◌≡◌, refl, sym, ◌∙◌, ap, subst}
use mathlib.Core.Bool.{Bool, true, false, not, ◌||◌}
use mathlib.Core.List.{List}
use Prim.Native.Nat.{ℕ, ◌+◌, ◌*◌, ◌%◌, ◌≤◌}
use native.Mathlib.Omega.{arith}
use lib.ListN.{length}
use lib.Dec.{eqb, leb}
use borrow.Author.Tests.{le-leb, leb-true, eq-eqb, ne_eqb, eqb-true, eqb-false, not-true}
use Rattle.le.specs.Number.{number}
use Rattle.le.proofs.Laws.{number-split}
use Rattle.chunk.specs.declared.Refusal.TheVariants.{NotWave}
use Rattle.chunk.specs.Refusals.{Answer, Ok}
use Rattle.chunk.specs.Names.{RIFF, RF64, BW64, WAVE, DS64}
use Rattle.chunk.specs.Fields.{ONES}
use Rattle.chunk.proofs.Checks.{picked, true-false, given-inj, refused-given, check-given, check-true, and_then-given, and_then-at, rule_and, or-true, pick-false}
use Rattle.form.specs.declared.Form.{Form}
use Rattle.form.specs.declared.Form.TheVariants.{Riff, Rf64, Bw64}
use Rattle.form.specs.declared.Head.{Head}
use Rattle.form.specs.Forms.{name_of, is_wide, form_of, ds64_good, ds64_at, no_ds64, wide_as, head_as, form_size, whole_form, whole_as, head_of, open_for32, ENTRIES, LEAST, ENTRY}

-- what an accepted head tells
pub record Opened (s : List ℕ) (h : Head) : Type 0 where
  pub long : 12 ≤ length s
  pub named : number 4 0 s ≡ name_of h.form
  pub wave : number 4 8 s ≡ WAVE
  pub head : head_as h.form s ≡ Ok h
  pub whole : 8 + form_size h (number 4 4 s) ≡ length s
  pub least : 4 ≤ form_size h (number 4 4 s)

-- ---- the form's name

pub form-named : (name : ℕ) (f : Form) → form_of name ≡ Ok f → name ≡ name_of f
unfolding form_of name_of
form-named name f =
    picked P (eqb name RIFF) _ _ (λ h e. eqb-true name RIFF h ∙ ap name_of (given-inj Riff f e)) λ _.
    picked P (eqb name RF64) _ _ (λ h e. eqb-true name RF64 h ∙ ap name_of (given-inj Rf64 f e)) λ _.
    picked P (eqb name BW64) _ _ (λ h e. eqb-true name BW64 h ∙ ap name_of (given-inj Bw64 f e)) λ _ e.
    absurd (refused-given NotWave f e)
  where
    P : Answer Form → Type 0
    P x = x ≡ Ok f → name ≡ name_of f

pub named-form : (name : ℕ) (f : Form) → name ≡ name_of f → form_of name ≡ Ok f
unfolding form_of name_of
named-form name Riff e = rw e
named-form name Rf64 e = rw e
named-form name Bw64 e = rw e

-- ---- check 5

pub whole-true : (len size : ℕ) → whole_form len size ≡ true → (8 + size ≡ len) × (4 ≤ size)
unfolding whole_form
whole-true len size e =
    let c = rule_and (eqb (8 + size) len) _ e in
    (eqb-true (8 + size) len c.0, leb-true 4 size (rule_and (leb 4 size) _ c.1).0)

pub true-whole : (len size : ℕ) → 8 + size ≡ len → 4 ≤ size → whole_form len size ≡ true
unfolding whole_form
true-whole len size h k = rw (eq-eqb (8 + size) len h, le-leb 4 size k)

-- "an all-ones form field means the ds64 form size", and any other is the size
pub form-own : (h : Head) (own : ℕ) → (own ≡ ONES → ⊥) → form_size h own ≡ own
unfolding form_size
form-own h own k = pick-false (eqb own ONES) _ _ (ne_eqb own ONES k)

pub form-ones : (h : Head) → form_size h ONES ≡ h.ds64.form_size
unfolding form_size
form-ones h = refl

-- ---- a head keeps the form it was read as

pub riff-head : (s : List ℕ) (h : Head) → head_as Riff s ≡ Ok h
    → (number 4 4 s ≡ ONES → ⊥) × (h ≡ record { form = Riff; ds64 = no_ds64 })
unfolding head_as
riff-head s h e =
    let c = check-given (not (eqb (number 4 4 s) ONES)) _ _ h e in
    (eqb-false (number 4 4 s) ONES (not-true _ c.0), sym (given-inj _ _ c.1))

abbrev good_at : List ℕ → Bool
good_at s = ds64_good (length s) (number 4 12 s) (number 4 16 s) (number 4 44 s)

pub wide-head : (f : Form) (s : List ℕ) (h : Head) → is_wide f ≡ true → head_as f s ≡ Ok h
    → (good_at s ≡ true) × (h ≡ record { form = f; ds64 = ds64_at s })
unfolding wide_as head_as is_wide
wide-head Riff s h w e = absurd (true-false false w refl)
wide-head Rf64 s h w e = let c = check-given (good_at s) _ _ h e in (c.0, sym (given-inj _ _ c.1))
wide-head Bw64 s h w e = let c = check-given (good_at s) _ _ h e in (c.0, sym (given-inj _ _ c.1))

pub head-wide : (f : Form) (s : List ℕ) → is_wide f ≡ true → good_at s ≡ true
    → head_as f s ≡ Ok (record { form = f; ds64 = ds64_at s })
unfolding wide_as head_as is_wide
head-wide Riff s w e = absurd (true-false false w refl)
head-wide Rf64 s w e = check-true (good_at s) _ _ e
head-wide Bw64 s w e = check-true (good_at s) _ _ e

head-form : (f : Form) (s : List ℕ) (h : Head) → head_as f s ≡ Ok h → h.form ≡ f
unfolding is_wide
head-form Riff s h e = ap (λ (x : Head). x.form) (riff-head s h e).1
head-form Rf64 s h e = ap (λ (x : Head). x.form) (wide-head Rf64 s h refl e).1
head-form Bw64 s h e = ap (λ (x : Head). x.form) (wide-head Bw64 s h refl e).1

-- ---- the rules of ds64

pub record Ds64Rules (len name size count : ℕ) : Type 0 where
  pub named : name ≡ DS64
  pub sized : size ≡ ONES → ⊥
  pub holds : LEAST + ENTRY * count ≤ size
  pub few : count ≤ ENTRIES
  pub ends : 20 + size + size % 2 ≤ len

pub ds64-rules : (len name size count : ℕ) → ds64_good len name size count ≡ true → Ds64Rules len name size count
unfolding ds64_good
ds64-rules len name size count e =
    let c1 = rule_and (eqb name DS64) _ e in
    let c2 = rule_and (not (eqb size ONES)) _ c1.1 in
    let c3 = rule_and (leb (LEAST + ENTRY * count) size) _ c2.1 in
    let c4 = rule_and (leb count ENTRIES) _ c3.1 in
    let c5 = rule_and (leb (20 + size + size % 2) len) _ c4.1 in
    record {
      named = eqb-true name DS64 c1.0;
      sized = eqb-false size ONES (not-true _ c2.0);
      holds = leb-true (LEAST + ENTRY * count) size c3.0;
      few = leb-true count ENTRIES c4.0;
      ends = leb-true (20 + size + size % 2) len c5.0;
    }

pub rules-ds64 : (len name size count : ℕ) → Ds64Rules len name size count → ds64_good len name size count ≡ true
unfolding ds64_good
rules-ds64 len name size count r =
    rw (
      eq-eqb name DS64 r.named,
      ne_eqb size ONES r.sized,
      le-leb (LEAST + ENTRY * count) size r.holds,
      le-leb count ENTRIES r.few,
      le-leb (20 + size + size % 2) len r.ends,
    )

-- each 64-bit number of ds64 is its low half and 2 ^ 32 times its high half
pub ds64-whole : (s : List ℕ) → 20 + LEAST ≤ length s
    → ((ds64_at s).form_size ≡ number 4 20 s + 0x1_0000_0000 * number 4 24 s)
    × ((ds64_at s).data_size ≡ number 4 28 s + 0x1_0000_0000 * number 4 32 s)
    × ((ds64_at s).third ≡ number 4 36 s + 0x1_0000_0000 * number 4 40 s)
unfolding ds64_at
ds64-whole s h =
    (number-split 4 4 20 s (omega arith), number-split 4 4 28 s (omega arith), number-split 4 4 36 s (omega arith))

-- ---- both directions

pub head_opened : (s : List ℕ) (h : Head) → head_of s ≡ Ok h → Opened s h
unfolding whole_as head_of
head_opened s h e =
    let c1 = check-given (leb 12 (length s)) _ _ h e in
    let c2 = and_then-given (form_of (number 4 0 s)) _ h c1.1 in
    let c3 = check-given (eqb (number 4 8 s) WAVE) _ _ h c2.2 in
    let c4 = and_then-given (head_as c2.0 s) _ h c3.1 in
    let c5 = check-given (whole_form (length s) (form_size c4.0 (number 4 4 s))) _ _ h c4.2 in
    gather c2.0 c4.0 (leb-true 12 (length s) c1.0) c2.1 (eqb-true (number 4 8 s) WAVE c3.0) c4.1
    (whole-true (length s) (form_size c4.0 (number 4 4 s)) c5.0) (given-inj c4.0 h c5.1)
  where
    gather : (f : Form) (g : Head) → 12 ≤ length s → form_of (number 4 0 s) ≡ Ok f → number 4 8 s ≡ WAVE
        → head_as f s ≡ Ok g → (8 + form_size g (number 4 4 s) ≡ length s) × (4 ≤ form_size g (number 4 4 s)) → g ≡ h
        → Opened s h
    gather f g long form wave head whole is =
        let keeps : g.form ≡ f = head-form f s g head in
        subst (Opened s) is
        (record {
          long = long;
          named = form-named (number 4 0 s) f form ∙ sym (ap name_of keeps);
          wave = wave;
          head = ap (λ (x : Form). head_as x s) keeps ∙ head;
          whole = whole.0;
          least = whole.1;
        })

pub opened-head : (s : List ℕ) (h : Head) → Opened s h → head_of s ≡ Ok h
unfolding whole_as head_of
opened-head s h o =
    check-true (leb 12 (length s)) _ _ (le-leb 12 (length s) o.long)
    ∙ and_then-at (form_of (number 4 0 s)) _ h.form (named-form (number 4 0 s) h.form o.named)
    ∙ check-true (eqb (number 4 8 s) WAVE) _ _ (eq-eqb (number 4 8 s) WAVE o.wave)
    ∙ and_then-at (head_as h.form s) _ h o.head
    ∙ check-true (whole_form (length s) (form_size h (number 4 4 s))) _ _ (true-whole (length s) (form_size h (number 4 4 s)) o.whole o.least)

-- ---- the 32-bit walk opens what the scan opens

pub opened-32 : (s : List ℕ) (h : Head) → Opened s h → open_for32 s ≡ Ok 12
unfolding open_for32
opened-32 s h o =
    check-true (leb 12 (length s)) _ _ (le-leb 12 (length s) o.long)
    ∙ check-true (eqb (number 4 8 s) WAVE) _ _ (eq-eqb (number 4 8 s) WAVE o.wave)
    ∙ check-true (eqb (number 4 4 s) ONES || whole_form (length s) (number 4 4 s)) _ _
    (or-true (eqb (number 4 4 s) ONES) _ λ e.
    let p = form-own h (number 4 4 s) (eqb-false (number 4 4 s) ONES e) in
    true-whole (length s) (number 4 4 s) (rw p at o.whole) (rw p at o.least))
