-- Rows laid in a file: each header stands where the chunk before it ends, and the last chunk ends with the file. A walk
-- that ends with no refusal shows rows that are laid, and laid rows are what the walk shows; so laws of a walk are proved
-- by induction on rows that are laid.
-- Assumes nothing.
use mathlib.Core.Path.{◌≡◌, refl, sym, ◌∙◌, ap, subst}
use mathlib.Core.Bool.{Bool, true, false}
use mathlib.Core.Logic.{◌⊎◌, inl, inr}
use mathlib.Core.List.Memᴰ
use mathlib.Core.List.{List, [], ◌∷◌, map, Memᴰ}
use Prim.Native.Nat.{ℕ, zero, suc, ◌+◌, ◌-◌, ◌%◌, ◌≤◌}
use native.Mathlib.Omega.{arith}
use lib.ListN.{length}
use lib.Dec.{eqb, ltb, leb}
use borrow.Author.Tests.{le-leb, leb-true, eq-eqb, ne_eqb, eqb-true, eqb-false, le-ltb}
use Rattle.le.specs.Number.{number}
use Rattle.chunk.specs.declared.Entry.{Entry}
use Rattle.chunk.specs.declared.Source.{Source}
use Rattle.chunk.specs.declared.TrueSize.{TrueSize}
use Rattle.chunk.specs.declared.Refusal.{Refusal}
use Rattle.chunk.specs.declared.Refusal.TheVariants.{CutHeader, TooMany, UnknownSize, PastEnd}
use Rattle.chunk.specs.Refusals.{Answer, Verdict, Err, Ok}
use Rattle.chunk.proofs.Checks.{picked, given-inj, refused-given, pick_true, pick-false}
use Rattle.chunk.specs.Fields.{ONES}
use Rattle.chunk.specs.Walks.{Turn, Chunk, Stop, Rule, entry_of, past, placed, sized, step, step_at, Walked, follow, walk, field_size, own_size}

-- the true size that a row shows, and where it came from
abbrev pub row-size : Entry → TrueSize
row-size e = record { bytes = e.size; source = e.source }

-- a chunk whose header stands at an offset
pub record Row (rule : Rule) (s : List ℕ) (at : ℕ) (e : Entry) : Type 0 where
  pub place : e.place ≡ at + 8
  pub named : number 4 at s ≡ e.name
  pub sized : rule at e.name (number 4 (at + 4) s) ≡ Ok (row-size e)
  pub ends : past e ≤ length s

-- the rows from an offset to the end of the file
pub data Laid (rule : Rule) (s : List ℕ) : ℕ → List Entry → Type 0 where
  done : {at : ℕ} → at ≡ length s → Laid rule s at []
  next : {at : ℕ} {e : Entry} {es : List Entry} → Row rule s at e → Laid rule s (past e) es → Laid rule s at (e ∷ es)

pub row_fits : {rule : Rule} {s : List ℕ} {at : ℕ} {e : Entry} → Row rule s at e → at + 8 ≤ length s
unfolding past
row_fits r = omega arith

-- ---- where the next header is due

-- "one pad byte if the payload is odd", and none if it is even
pub past-odd : (e : Entry) → e.size % 2 ≡ 1 → past e ≡ e.place + e.size + 1
unfolding past
past-odd e h = ap (λ (n : ℕ). e.place + e.size + n) h

pub past-even : (e : Entry) → e.size % 2 ≡ 0 → past e ≡ e.place + e.size
unfolding past
past-even e h = omega arith

-- so every header stands at an even offset, as the first does
pub past-aligned : (e : Entry) → e.place % 2 ≡ 0 → past e % 2 ≡ 0
unfolding past
past-aligned e h = omega arith

-- ---- a step

-- what a step finds
pub data Found (rule : Rule) (s : List ℕ) (room at : ℕ) : Turn → Type 0 where
  ended : at ≡ length s → Found rule s room at (Stop (Ok tt))
  chunk : {e : Entry} → 1 ≤ room → Row rule s at e → Found rule s room at (Chunk e (past e))
  refusal : (r : Refusal) → Found rule s room at (Stop (Err r))

pub step-found : (rule : Rule) (s : List ℕ) (room at : ℕ) → Found rule s room at (step_at rule s room at)
unfolding step_at step sized placed
step-found rule s room at =
    picked F (eqb at (length s)) _ _ (λ h. ended (eqb-true at (length s) h)) λ _.
    picked F (ltb (length s) (at + 8)) _ _ (λ _. refusal CutHeader) λ _.
    picked F (eqb room 0) _ _ (λ _. refusal TooMany) λ h.
    size (above (eqb-false room 0 h)) (rule at (number 4 at s) (number 4 (at + 4) s)) refl
  where
    F : Turn → Type 0
    F = Found rule s room at

    above : (room ≡ 0 → ⊥) → 1 ≤ room
    above h = omega arith

    size : 1 ≤ room → (x : Answer TrueSize) → rule at (number 4 at s) (number 4 (at + 4) s) ≡ x
        → Found rule s room at (sized (length s) at (number 4 at s) x)
    size r (Err x) e = refusal x
    size r (Ok t) e =
        picked F (leb (past (entry_of (at + 8) (number 4 at s) t)) (length s)) _ _
        (λ h. chunk r (record { place = refl; named = refl; sized = e; ends = leb-true _ _ h }))
        (λ _. refusal PastEnd)

pub step_end : (rule : Rule) (s : List ℕ) (room at : ℕ) → at ≡ length s → step_at rule s room at ≡ Stop (Ok tt)
unfolding step_at step
step_end rule s room at h = rw (eq-eqb at (length s) h)

-- where a header has room and bytes, the step is what the rule makes of it
pub step-sized : (rule : Rule) (s : List ℕ) (room at : ℕ) → at + 8 ≤ length s
    → step_at rule s (suc room) at ≡ sized (length s) at (number 4 at s) (rule at (number 4 at s) (number 4 (at + 4) s))
unfolding step_at step
step-sized rule s room at h =
    pick-false (eqb at (length s)) _ _ (ne_eqb at (length s) (λ k. omega arith))
    ∙ pick-false (ltb (length s) (at + 8)) _ _ (le-ltb (length s) (at + 8) h)
    ∙ pick-false (eqb (suc room) 0) _ _ (ne_eqb (suc room) 0 (λ k. omega arith))

-- a row is a chunk to the walk
pub step_row : {rule : Rule} {s : List ℕ} {at : ℕ} {e : Entry} (room : ℕ)
    → Row rule s at e → step_at rule s (suc room) at ≡ Chunk e (past e)
unfolding sized placed
step_row {rule} {s} {at} {e} room r =
    step-sized rule s room at (row_fits r)
    ∙ ap (λ (n : ℕ). sized (length s) at n (rule at n (number 4 (at + 4) s))) r.named
    ∙ ap (sized (length s) at e.name) r.sized
    ∙ ap (λ (p : ℕ). placed (length s) (entry_of p e.name (row-size e))) (sym r.place)
    ∙ pick_true (leb (past e) (length s)) _ _ (le-leb _ _ r.ends)

-- a header whose size the rule refuses stops the walk
pub step-refused : (rule : Rule) (s : List ℕ) (room at : ℕ) (r : Refusal) → at + 8 ≤ length s
    → rule at (number 4 at s) (number 4 (at + 4) s) ≡ Err r → step_at rule s (suc room) at ≡ Stop (Err r)
unfolding sized
step-refused rule s room at r h k = step-sized rule s room at h ∙ ap (sized (length s) at (number 4 at s)) k

-- ---- the walk

pub walk-stop : (rule : Rule) (s : List ℕ) (room at : ℕ) (v : Verdict)
    → step_at rule s room at ≡ Stop v → walk rule s room at ≡ record { rows = []; end = v }
unfolding walk follow
walk-stop rule s zero at v e = rw e
walk-stop rule s (suc room) at v e = rw e

pub walk-chunk : (rule : Rule) (s : List ℕ) (room at : ℕ) (e : Entry) (to : ℕ) → step_at rule s (suc room) at ≡ Chunk e to
    → walk rule s (suc room) at ≡ record { rows = e ∷ (walk rule s room to).rows; end = (walk rule s room to).end }
unfolding walk follow
walk-chunk rule s room at e to h = rw h

-- what a walk with no refusal shows is laid
pub record Ends (rule : Rule) (s : List ℕ) (room at : ℕ) (rows : List Entry) : Type 0 where
  pub laid : Laid rule s at rows
  pub few : length rows ≤ room

pub walk-laid : (rule : Rule) (s : List ℕ) (room at : ℕ)
    → (walk rule s room at).end ≡ (Ok tt) → Ends rule s room at (walk rule s room at).rows
unfolding walk follow
walk-laid rule s zero at h = go (step-found rule s zero at) h
  where
    rest : ℕ → Walked
    rest to = record { rows = []; end = Err TooMany }

    go : {x : Turn} → Found rule s zero at x → (follow x rest).end ≡ (Ok tt) → Ends rule s zero at (follow x rest).rows
    go (ended e) k = record { laid = done e; few = omega arith }
    go (chunk r row) k = absurd (omega arith)
    go (refusal r) k = absurd (let z : ◌≡◌ {A = ℕ} 0 1 = cc in omega arith)
walk-laid rule s (suc room) at h = go (walk-laid rule s room) (step-found rule s (suc room) at) h
  where
    rest : ℕ → Walked
    rest to = walk rule s room to

    go : ((to : ℕ) → (rest to).end ≡ (Ok tt) → Ends rule s room to (rest to).rows) → {x : Turn} → Found rule s (suc room) at x
        → (follow x rest).end ≡ (Ok tt) → Ends rule s (suc room) at (follow x rest).rows
    go below (ended e) k = record { laid = done e; few = omega arith }
    go below (chunk {e} r row) k =
        let b = below (past e) k in
        record { laid = next row b.laid; few = omega arith }
    go below (refusal r) k = absurd (let z : ◌≡◌ {A = ℕ} 0 1 = cc in omega arith)

-- laid rows are what the walk shows
pub laid-walk : {rule : Rule} {s : List ℕ} {at : ℕ} {rows : List Entry} (room : ℕ)
    → Laid rule s at rows → length rows ≤ room → walk rule s room at ≡ record { rows = rows; end = Ok tt }
laid-walk {rule} {s} {at} room (done h) k = walk-stop rule s room at (Ok tt) (step_end rule s room at h)
laid-walk zero (next r l) k = absurd (omega arith)
laid-walk {rule} {s} {at} (suc room) (next {e = e} r l) k =
    walk-chunk rule s room at e (past e) (step_row room r)
    ∙ ap (λ (w : Walked). record { rows = e ∷ w.rows; end = w.end }) (laid-walk room l (omega arith))

-- ---- rows that are laid

-- a row of laid rows, with its header 8 bytes ahead of its place
pub record Lies (rule : Rule) (s : List ℕ) (at : ℕ) (e : Entry) : Type 0 where
  pub after : at + 8 ≤ e.place
  pub ends : past e ≤ length s
  pub named : number 4 (e.place - 8) s ≡ e.name
  pub sized : rule (e.place - 8) e.name (number 4 (e.place - 4) s) ≡ Ok (row-size e)

row_lies : {rule : Rule} {s : List ℕ} {at : ℕ} {e : Entry} → Row rule s at e → Lies rule s at e
row_lies {rule} {s} {at} {e} r =
    let p : e.place - 8 ≡ at = omega arith in
    let q : e.place - 4 ≡ at + 4 = omega arith in
    record { after = omega arith; ends = r.ends; named = rw p r.named; sized = rw (p, q) r.sized }

pub laid-lies : {rule : Rule} {s : List ℕ} {at : ℕ} {rows : List Entry} {e : Entry}
    → Laid rule s at rows → Memᴰ e rows → Lies rule s at e
unfolding past
laid-lies (done h) m = absurd (Memᴰ.not-nil m)
laid-lies {rule} {s} {at} {e = e} (next {e = x} {es = es} r l) m =
    go (λ (k : Memᴰ e es). laid-lies l k) (Memᴰ.cases_cons m)
  where
    go : (Memᴰ e es → Lies rule s (past x) e) → (e ≡ x) ⊎ Memᴰ e es → Lies rule s at e
    go below (inl p) = subst (Lies rule s at) (sym p) (row_lies r)
    go below (inr k) =
        let b = below k in
        record { after = omega (arith, r.place, b.after); ends = b.ends; named = b.named; sized = b.sized }

-- Two rows are one, or one ends ahead of the other's header.
pub data Apart (e f : Entry) : Type 0 where
  same : e ≡ f → Apart e f
  before : past e + 8 ≤ f.place → Apart e f
  after : past f + 8 ≤ e.place → Apart e f

pub laid-apart : {rule : Rule} {s : List ℕ} {at : ℕ} {rows : List Entry} {e f : Entry}
    → Laid rule s at rows → Memᴰ e rows → Memᴰ f rows → Apart e f
laid-apart (done h) m n = absurd (Memᴰ.not-nil m)
laid-apart {e = e} {f = f} (next {e = x} {es = es} r l) m n =
    go (λ (k : Memᴰ e es) (j : Memᴰ f es). laid-apart l k j) (Memᴰ.cases_cons m) (Memᴰ.cases_cons n)
  where
    go : (Memᴰ e es → Memᴰ f es → Apart e f) → (e ≡ x) ⊎ Memᴰ e es → (f ≡ x) ⊎ Memᴰ f es → Apart e f
    go below (inl p) (inl q) = same (p ∙ sym q)
    go below (inl p) (inr j) = before (rw p (laid-lies l j).after)
    go below (inr k) (inl q) = after (rw q (laid-lies l k).after)
    go below (inr k) (inr j) = below k j

-- ---- rows of the same places and sizes in another file of the same length, perhaps by another rule

-- what has to hold of each row there
pub record Shown (rule : Rule) (s : List ℕ) (e : Entry) : Type 0 where
  pub named : number 4 (e.place - 8) s ≡ e.name
  pub sized : rule (e.place - 8) e.name (number 4 (e.place - 4) s) ≡ Ok (row-size e)

-- each row is now another, which has its place and size
pub relaid-as : {rule : Rule} {s : List ℕ} {at : ℕ} {rows : List Entry} (g : Entry → Entry) (new : Rule) (u : List ℕ)
    → ((e : Entry) → ((g e).place ≡ e.place) × ((g e).size ≡ e.size)) → length u ≡ length s
    → ((e : Entry) → Memᴰ e rows → Shown new u (g e)) → Laid rule s at rows → Laid new u at (map g rows)
unfolding past
relaid-as g new u stay h shown (done e) = done (e ∙ sym h)
relaid-as {at = at} g new u stay h shown (next {e = x} {es = xs} r l) =
    let w = shown x (Memᴰ.head refl) in
    let z = stay x in
    let p : (g x).place - 8 ≡ at = omega (arith, z.0, r.place) in
    let q : (g x).place - 4 ≡ at + 4 = omega (arith, z.0, r.place) in
    let b : past x ≡ past (g x) = omega (arith, z.0, z.1) in
    next
    (record { place = z.0 ∙ r.place; named = rw p at w.named; sized = rw (p, q) at w.sized; ends = omega (arith, b, h, r.ends) })
    (subst (λ (k : ℕ). Laid new u k (map g xs)) b (relaid-as g new u stay h (λ e m. shown e (Memᴰ.tail m)) l))

-- ---- the rule of the 32-bit walk

pub own-ones : (at name own : ℕ) → own ≡ ONES → own_size at name own ≡ Err UnknownSize
unfolding own_size
own-ones at name own h = pick_true _ _ _ (eq-eqb own ONES h)

pub own-given : (at name own : ℕ) → (own ≡ ONES → ⊥) → own_size at name own ≡ Ok (field_size own)
unfolding own_size
own-given at name own h = pick-false _ _ _ (ne_eqb own ONES h)

-- it gives no other size
pub own-only : (at name own : ℕ) (t : TrueSize) → own_size at name own ≡ Ok t → t ≡ field_size own
own-only at name own t e = go (eqb own ONES) refl
  where
    go : (b : Bool) → eqb own ONES ≡ b → t ≡ field_size own
    go true h = absurd (refused-given UnknownSize t (sym (own-ones at name own (eqb-true own ONES h)) ∙ e))
    go false h = given-inj t _ (sym e ∙ own-given at name own (eqb-false own ONES h))

-- ---- where the sizes that a walk shows came from

-- what holds of the source of each size that a rule gives holds of each row's
pub walk-sources : (rule : Rule) (P : Source → Type 0) → ((at name own : ℕ) (t : TrueSize) → rule at name own ≡ Ok t → P t.source)
    → (s : List ℕ) (room at : ℕ) (e : Entry) → Memᴰ e (walk rule s room at).rows → P e.source
unfolding walk follow
walk-sources rule P f s zero at e m = go (step-found rule s zero at) m
  where
    go : {x : Turn} → Found rule s zero at x → Memᴰ e (follow x (λ to. record { rows = []; end = Err TooMany })).rows → P e.source
    go (ended h) k = absurd (Memᴰ.not-nil k)
    go (chunk r row) k = absurd (omega arith)
    go (refusal r) k = absurd (Memᴰ.not-nil k)
walk-sources rule P f s (suc room) at e m = go (walk-sources rule P f s room) (step-found rule s (suc room) at) m
  where
    go : ((to : ℕ) (x : Entry) → Memᴰ x (walk rule s room to).rows → P x.source) → {x : Turn} → Found rule s (suc room) at x
        → Memᴰ e (follow x (λ to. walk rule s room to)).rows → P e.source
    go below (ended h) k = absurd (Memᴰ.not-nil k)
    go below (chunk {e = x} r row) k = here (Memᴰ.cases_cons k)
      where
        here : (e ≡ x) ⊎ Memᴰ e (walk rule s room (past x)).rows → P e.source
        here (inl p) = subst (λ (y : Entry). P y.source) (sym p) (f at x.name (number 4 (at + 4) s) (row-size x) row.sized)
        here (inr j) = below (past x) e j
    go below (refusal r) k = absurd (Memᴰ.not-nil k)
