-- Demand 3, first half: the 32-bit walk of a listed file. Its rows are laid, so each header is met at the same offset
-- by both walks; where the own field is not all ones it is the true size by either rule, and where it is the 32-bit walk
-- stops with 7.
-- Assumes nothing.
use mathlib.Core.Path.{◌≡◌, refl, sym, ◌∙◌, ap}
use mathlib.Core.Bool.{Bool, true, false}
use mathlib.Core.List.Memᴰ
use mathlib.Core.List.{List, [], ◌∷◌, ◌++◌, Memᴰ}
use Prim.Native.Nat.{ℕ, zero, suc, ◌+◌, ◌≤◌}
use native.Mathlib.Omega.{arith}
use lib.ListN.{length}
use lib.Dec.{eqb}
use borrow.Author.Tests.{eq-eqb, ne_eqb, eqb-true, eqb-false}
use Rattle.le.specs.Number.{number}
use Rattle.chunk.specs.declared.Entry.{Entry}
use Rattle.chunk.specs.declared.Source.{Source}
use Rattle.chunk.specs.declared.Source.TheVariants.{Own}
use Rattle.chunk.specs.declared.TrueSize.{TrueSize}
use Rattle.chunk.specs.declared.Refusal.TheVariants.{UnknownSize}
use Rattle.chunk.specs.Refusals.{Answer, Err, Ok}
use Rattle.chunk.specs.Fields.{ONES}
use Rattle.chunk.specs.Walks.{Rule, past, Walked, walk, field_size, own_size}
use Rattle.chunk.proofs.Checks.{pick_true, pick-false}
use Rattle.chunk.proofs.Laid.{Row, Laid, done, next, row_fits, step_end, step_row, step-refused, walk-stop, walk-chunk, own-ones, own-given, own-only, walk-sources}
use Rattle.form.specs.declared.Head.{Head}
use Rattle.form.specs.Forms.{open_for32}
use Rattle.form.proofs.Heads.{opened-32}
use Rattle.truesize.specs.Sizes.{true_size, entries_of}
use Rattle.truesize.proofs.Sizes.{own_is}
use Rattle.chunk.specs.Tables.{LIMIT}
use Rattle.listing.specs.Listings.{Listing, listing}
use Rattle.wave.specs.Scans.{Scan, listing_of, scan, walk_from, walk32}
use Rattle.wave.specs.Tables.{own_field}
use Rattle.wave.specs.Demand3.{ahead, stop, SaysOwn, Sized, FirstHalf, ListHalf}
use Rattle.listing.proofs.Checked.{listing-checked}
use Rattle.wave.proofs.Scanned.{scan-listed}

-- ---- the rows ahead, and the end

abbrev shown : List ℕ → List Entry → Walked
shown s rows = record { rows = ahead s rows; end = stop s rows }

-- a row put in front of what a walk shows
abbrev after : Entry → Walked → Walked
after e w = record { rows = e ∷ w.rows; end = w.end }

shown-ones : (s : List ℕ) (e : Entry) (es : List Entry) → own_field s e ≡ ONES
    → shown s (e ∷ es) ≡ record { rows = []; end = Err UnknownSize }
unfolding ahead stop
shown-ones s e es h =
    let t = eqb (own_field s e) ONES in
    let q : t ≡ true = eq-eqb (own_field s e) ONES h in
    λ i. record { rows = pick_true t [] (e ∷ ahead s es) q i; end = pick_true t (Err UnknownSize) (stop s es) q i }

shown-sized : (s : List ℕ) (e : Entry) (es : List Entry) → (own_field s e ≡ ONES → ⊥) → shown s (e ∷ es) ≡ after e (shown s es)
unfolding ahead stop
shown-sized s e es h =
    let t = eqb (own_field s e) ONES in
    let q : t ≡ false = ne_eqb (own_field s e) ONES h in
    λ i. record { rows = pick-false t [] (e ∷ ahead s es) q i; end = pick-false t (Err UnknownSize) (stop s es) q i }

-- ---- the walk over laid rows

-- a rule by which a field that is not all ones is the size
Plain : Rule → Type 0
Plain rule = (at name own : ℕ) (t : TrueSize) → rule at name own ≡ Ok t → (own ≡ ONES → ⊥) → t ≡ field_size own

own_at : {rule : Rule} {s : List ℕ} {at : ℕ} {e : Entry} → Row rule s at e → own_field s e ≡ number 4 (at + 4) s
unfolding own_field
own_at {s = s} {at} {e} r = ap (λ (p : ℕ). number 4 p s) (omega (arith, r.place))

-- the header's answer to the 32-bit walk
row-ones : (rule : Rule) (s : List ℕ) (room at : ℕ) (e : Entry) → Row rule s at e → own_field s e ≡ ONES
    → walk own_size s (suc room) at ≡ record { rows = []; end = Err UnknownSize }
row-ones rule s room at e r h =
    walk-stop own_size s (suc room) at (Err UnknownSize)
    (step-refused own_size s room at UnknownSize (row_fits r)
    (own-ones at (number 4 at s) (number 4 (at + 4) s) (sym (own_at r) ∙ h)))

row-own : (rule : Rule) → Plain rule → (s : List ℕ) (at : ℕ) (e : Entry) → Row rule s at e → (own_field s e ≡ ONES → ⊥)
    → Row own_size s at e
unfolding Plain
row-own rule plain s at e r h =
    let own = number 4 (at + 4) s in
    let k : own ≡ ONES → ⊥ = λ q. h (own_at r ∙ q) in
    record {
      place = r.place;
      named = r.named;
      sized = own-given at e.name own k ∙ ap Ok (sym (plain at e.name own _ r.sized k));
      ends = r.ends;
    }

laid-own : (rule : Rule) → Plain rule → {s : List ℕ} {at : ℕ} {rows : List Entry} (room : ℕ) → Laid rule s at rows
    → length rows ≤ room → walk own_size s room at ≡ shown s rows
unfolding ahead stop
laid-own rule plain {s} {at} room (done h) k = walk-stop own_size s room at (Ok tt) (step_end own_size s room at h)
laid-own rule plain zero (next r l) k = absurd (omega arith)
laid-own rule plain {s} {at} (suc room) (next {e = e} {es = es} r l) k =
    go (laid-own rule plain room l (omega arith)) (eqb (own_field s e) ONES) refl
  where
    go : walk own_size s room (past e) ≡ shown s es → (b : Bool) → eqb (own_field s e) ONES ≡ b
        → walk own_size s (suc room) at ≡ shown s (e ∷ es)
    go below true h =
        let o = eqb-true (own_field s e) ONES h in
        row-ones rule s room at e r o ∙ sym (shown-ones s e es o)
    go below false h =
        let o = eqb-false (own_field s e) ONES h in
        walk-chunk own_size s room at e (past e) (step_row room (row-own rule plain s at e r o))
        ∙ ap (after e) below
        ∙ sym (shown-sized s e es o)

-- ---- the customer's two sentences

shown-split : (s : List ℕ) (xs : List Entry) (e : Entry) (ys : List Entry) → Sized s xs → own_field s e ≡ ONES
    → shown s (xs ++ e ∷ ys) ≡ record { rows = xs; end = Err UnknownSize }
unfolding Sized
shown-split s [] e ys h o = shown-ones s e ys o
shown-split s (x ∷ xs) e ys h o =
    shown-sized s x (xs ++ e ∷ ys) (h x (Memᴰ.head refl))
    ∙ ap (after x) (shown-split s xs e ys (λ y m. h y (Memᴰ.tail m)) o)

shown-whole : (s : List ℕ) (rows : List Entry) → Sized s rows → shown s rows ≡ record { rows = rows; end = Ok tt }
unfolding Sized ahead stop
shown-whole s [] h = refl
shown-whole s (x ∷ xs) h =
    shown-sized s x xs (h x (Memᴰ.head refl)) ∙ ap (after x) (shown-whole s xs (λ y m. h y (Memᴰ.tail m)))

true-plain : (s : List ℕ) (h : Head) → Plain (true_size h (entries_of h s))
unfolding Plain
true-plain s h at name own t e = own_is h (entries_of h s) at name own t e

list-walk : (s : List ℕ) (l : Listing) → listing s ≡ Ok l → walk32 s ≡ shown s l.rows
unfolding walk32 walk_from
list-walk s l e =
    let c = listing-checked s l e in
    ap (λ (x : Answer ℕ). walk_from x s) (opened-32 s l.head c.opened)
    ∙ laid-own (true_size l.head (entries_of l.head s)) (true-plain s l.head) LIMIT c.laid c.few

-- the 32-bit walk says own field of every file
pub says-own : (s : List ℕ) → SaysOwn s
unfolding SaysOwn walk32 walk_from
says-own s e m = go (open_for32 s) m
  where
    go : (x : Answer ℕ) → Memᴰ e (walk_from x s).rows → e.source ≡ Own
    go (Err r) k = absurd (Memᴰ.not-nil k)
    go (Ok at) k =
        walk-sources own_size (λ (x : Source). x ≡ Own) (λ at name own t p. ap (λ (x : TrueSize). x.source) (own-only at name own t p)) s LIMIT at e k

-- Demand 3, first half, of every listed file.
pub list-half : (s : List ℕ) (l : Listing) → listing s ≡ Ok l → ListHalf s l.rows
list-half s l e =
    record {
      stops = λ xs x ys h k o. list-walk s l e ∙ ap (shown s) h ∙ shown-split s xs x ys k o;
      whole = λ h. list-walk s l e ∙ shown-whole s l.rows h;
      walk = list-walk s l e;
    }

-- So of every accepted one.
pub first-half : (s : List ℕ) (a : Scan) → scan s ≡ Ok a → FirstHalf s a
first-half s a e =
    let h = list-half s (listing_of a) (scan-listed s a e) in
    record { stops = h.stops; whole = h.whole; walk = h.walk }
