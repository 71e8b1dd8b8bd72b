-- Words that begin with others: what the test tells, and how it goes on from word to word and from row to row.
use mathlib.Core.Path.{◌≡◌, refl, sym, ap, ◌∙◌}
use mathlib.Core.Bool.{Bool, true, false, ◌&&◌}
use mathlib.Core.List.{List, [], ◌∷◌, ◌++◌}
use Prim.Native.Nat.{ℕ, zero, suc, ◌+◌, ◌≤◌, ◌<◌}
use native.Mathlib.Omega.{arith}
use lib.Pointwise.{pointwise}
use lib.ListN.{length, set, take, drop, get_or, get_or-append}
use lib.Dec.{eqb, ltb}
use borrow.Author.Tests.{eq-eqb, eqb-true, ltb-true, ltb-false}
use Rattle.le.specs.Choice.{pick}
use Rattle.chunk.specs.declared.Entry.{Entry}
use Rattle.chunk.specs.Sources.{source_number}
use Rattle.chunk.specs.Tables.{begins, row_words}
use Rattle.chunk.proofs.Checks.{pick_true, true-false}

-- ---- what the test tells

pub begins-true : (xs w : List ℕ) → begins xs w ≡ true → w ≡ xs ++ drop (length xs) w
unfolding begins pick
begins-true [] w e = refl
begins-true (x ∷ xs) [] e = absurd (true-false true refl (sym e))
begins-true (x ∷ xs) (y ∷ w) e = go (begins-true xs w) (eqb y x) refl e
  where
    go : (begins xs w ≡ true → w ≡ xs ++ drop (length xs) w) → (b : Bool) → eqb y x ≡ b → pick b (begins xs w) false ≡ true
        → y ∷ w ≡ x ∷ xs ++ drop (length xs) w
    go below true q p = λ i. eqb-true y x q i ∷ below p i
    go below false q p = absurd (true-false true refl (sym p))

pub true-begins : (xs w : List ℕ) → begins xs (xs ++ w) ≡ true
unfolding begins
true-begins [] w = refl
true-begins (x ∷ xs) w = pick_true (eqb x x) _ _ (eq-eqb x x refl) ∙ true-begins xs w

pub begins-short : (xs w : List ℕ) → length w < length xs → begins xs w ≡ false
unfolding begins pick
begins-short [] w h = absurd (omega arith)
begins-short (x ∷ xs) [] h = refl
begins-short (x ∷ xs) (y ∷ w) h = go (begins-short xs w (omega arith)) (eqb y x)
  where
    go : begins xs w ≡ false → (b : Bool) → pick b (begins xs w) false ≡ false
    go below true = below
    go below false = refl

pub begins-long : (xs w : List ℕ) → begins xs w ≡ true → length xs ≤ length w
begins-long xs w e = go (ltb (length w) (length xs)) refl
  where
    go : (b : Bool) → ltb (length w) (length xs) ≡ b → length xs ≤ length w
    go true h = absurd (true-false (begins xs w) e (begins-short xs w (ltb-true _ _ h)))
    go false h = ltb-false _ _ h

-- each of these words is there
pub begins-word : (xs w : List ℕ) → begins xs w ≡ true → (i : ℕ) → i < length xs → get_or w i 0 ≡ get_or xs i 0
begins-word xs w e i h = ap (λ (l : List ℕ). get_or l i 0) (begins-true xs w e) ∙ get_or-append xs (drop (length xs) w) 0 i h

-- a word past them doesn't matter
pub begins-past : (xs w : List ℕ) (i v : ℕ) → begins xs w ≡ true → length xs ≤ i → begins xs (set w i v) ≡ true
unfolding begins pick
begins-past [] w i v e h = refl
begins-past (x ∷ xs) [] i v e h = e
begins-past (x ∷ xs) (y ∷ w) zero v e h = absurd (omega arith)
begins-past (x ∷ xs) (y ∷ w) (suc i) v e h = go (λ q. begins-past xs w i v q (omega arith)) (eqb y x) e
  where
    go : (begins xs w ≡ true → begins xs (set w i v) ≡ true) → (b : Bool) → pick b (begins xs w) false ≡ true
        → pick b (begins xs (set w i v)) false ≡ true
    go below true q = below q
    go below false q = q

-- ---- from word to word

pub begins-at : (x : ℕ) (xs w : List ℕ) (at : ℕ) → at < length w
    → begins (x ∷ xs) (drop at w) ≡ pick (eqb (get_or w at 0) x) (begins xs (drop (at + 1) w)) false
unfolding begins
begins-at x xs [] at h = absurd (omega arith)
begins-at x xs (y ∷ w) zero h = refl
begins-at x xs (y ∷ w) (suc at) h =
    begins-at x xs w at (omega arith)
    ∙ ap (λ (k : ℕ). pick (eqb (get_or w at 0) x) (begins xs (drop k (y ∷ w))) false) (let e : suc (at + 1) ≡ suc at + 1 = omega arith in e)

-- what remains past words that are there
pub begins-append : (xs ys w : List ℕ) → begins (xs ++ ys) w ≡ pick (begins xs w) (begins ys (drop (length xs) w)) false
unfolding begins pick
begins-append [] ys w = refl
begins-append (x ∷ xs) ys [] = refl
begins-append (x ∷ xs) ys (y ∷ w) = go (begins-append xs ys w) (eqb y x)
  where
    go : begins (xs ++ ys) w ≡ pick (begins xs w) (begins ys (drop (length xs) w)) false → (b : Bool)
        → pick b (begins (xs ++ ys) w) false ≡ pick (pick b (begins xs w) false) (begins ys (drop (length xs) w)) false
    go below true = below
    go below false = refl

-- ---- words compared at once

pub pointwise-begins : (xs w : List ℕ) → length xs ≤ length w → pointwise eqb (take (length xs) w) xs ≡ begins xs w
unfolding begins pick
pointwise-begins [] w h = refl
pointwise-begins (x ∷ xs) [] h = absurd (omega arith)
pointwise-begins (x ∷ xs) (y ∷ w) h = go (pointwise-begins xs w (omega arith)) (eqb y x)
  where
    go : pointwise eqb (take (length xs) w) xs ≡ begins xs w → (b : Bool)
        → b && pointwise eqb (take (length xs) w) xs ≡ pick b (begins xs w) false
    go below true = below
    go below false = refl

-- a row, word by word, as the code compares it
pub row-begins : (e : Entry) (w : List ℕ) (at : ℕ) → at + 4 ≤ length w
    → begins (row_words e) (drop at w)
    ≡ pick (eqb (get_or w at 0) e.name)
    (pick (eqb (get_or w (at + 1) 0) e.place)
    (pick (eqb (get_or w (at + 2) 0) e.size) (eqb (get_or w (at + 3) 0) (source_number e.source)) false)
    false)
    false
unfolding row_words begins pick
row-begins e w at h =
    let two : at + 1 + 1 ≡ at + 2 = omega arith in
    let three : at + 2 + 1 ≡ at + 3 = omega arith in
    let name : Bool = eqb (get_or w at 0) e.name in
    let place : Bool = eqb (get_or w (at + 1) 0) e.place in
    let size : Bool = eqb (get_or w (at + 2) 0) e.size in
    let source : Bool = eqb (get_or w (at + 3) 0) (source_number e.source) in
    let last : List ℕ = source_number e.source ∷ [] in
    begins-at e.name (e.place ∷ e.size ∷ last) w at (omega arith)
    ∙ ap (λ (b : Bool). pick name b false)
    (begins-at e.place (e.size ∷ last) w (at + 1) (omega arith)
    ∙ ap (λ (k : ℕ). pick place (begins (e.size ∷ last) (drop k w)) false) two
    ∙ ap (λ (b : Bool). pick place b false)
    (begins-at e.size last w (at + 2) (omega arith)
    ∙ ap (λ (k : ℕ). pick size (begins last (drop k w)) false) three
    ∙ ap (λ (b : Bool). pick size b false) (begins-at (source_number e.source) [] w (at + 3) (omega arith) ∙ only source)))
  where
    only : (b : Bool) → pick b true false ≡ b
    only true = refl
    only false = refl
