-- What a tally of rows tells of the rows: each name's part of it is a fold of its own, so each law is proved once, over the
-- name, by induction on the rows; then check 10 of the tally is check 10 of the rows.
-- Assumes nothing.
use mathlib.Core.Path.{◌≡◌, refl, sym, ap, ap₂, ◌∙◌}
use mathlib.Core.Bool.{Bool, true, false, ◌||◌}
use mathlib.Core.List.{List, [], ◌∷◌}
use Rattle.std.specs.Prelude.{Some, None}
use Prim.Native.Nat.{ℕ, zero, suc, ◌+◌, ◌*◌, ◌/◌, ◌%◌, ◌^◌, ◌≤◌, ◌<◌}
use native.Mathlib.Omega.{arith}
use lib.ListN.{length}
use lib.Dec.{eqb, leb, ltb}
use borrow.Author.Tests.{eq-eqb, ne_eqb, eqb-true, eqb-false, lt-leb, le-leb, ltb-true, ltb-false}
use Rattle.le.specs.Choice.{pick}
use Rattle.chunk.specs.declared.Entry.{Entry}
use Rattle.chunk.specs.Names.{FMT, DATA, FACT, BEXT, CHNA, DS64}
use Rattle.chunk.specs.Tables.{count, find, LIMIT}
use Rattle.chunk.proofs.Checks.{picked, pick_true, pick-false}
use Rattle.listing.specs.declared.Payload.{Payload}
use Rattle.listing.specs.declared.tally.Tally.{Tally}
use Rattle.listing.specs.Listings.{chunks_good}
use Rattle.listing.specs.Code.{payload_of, changes, counts, heavy, weight, noted, all_noted, no_tally, tally_good, fact_in}
use Rattle.listing.proofs.Passing.{note-none}

-- ---- one name

-- what is kept of a name after these rows, where each chunk of the name changes it so
kept : {X : Type 0} → ℕ → (X → Entry → X) → X → List Entry → X
kept name f x [] = x
kept name f x (e ∷ es) = kept name f (changes name e (f x e) x) es

-- no chunk of the name
kept-none : {X : Type 0} (name : ℕ) (f : X → Entry → X) (x : X) (rows : List Entry) → count name rows ≡ 0 → kept name f x rows ≡ x
unfolding kept changes count
kept-none name f x [] h = refl
kept-none {X} name f x (e ∷ es) h = go (eqb e.name name) h (kept-none name f x es)
  where
    go : (b : Bool) → pick b (suc (count name es)) (count name es) ≡ 0 → (count name es ≡ 0 → kept name f x es ≡ x)
        → kept name f (pick b (f x e) x) es ≡ x
    go true p below = absurd (omega arith)
    go false p below = below p

-- one chunk of the name: the one that is found
kept-one : {X : Type 0} (name : ℕ) (f : X → Entry → X) (x : X) (rows : List Entry) → count name rows ≡ 1
    → kept name f x rows ≡ f x (find name rows)
unfolding kept changes count find
kept-one name f x [] h = absurd (omega arith)
kept-one {X} name f x (e ∷ es) h = go (eqb e.name name) h (kept-one name f x es)
  where
    go : (b : Bool) → pick b (suc (count name es)) (count name es) ≡ 1 → (count name es ≡ 1 → kept name f x es ≡ f x (find name es))
        → kept name f (pick b (f x e) x) es ≡ f x (pick b e (find name es))
    go true p below = kept-none name f (f x e) es (omega arith)
    go false p below = below p

-- what the chunks of the name count together
total : ℕ → (Entry → ℕ) → List Entry → ℕ
total name w [] = 0
total name w (e ∷ es) = counts name (w e) e + total name w es

total-count : (name : ℕ) (rows : List Entry) → total name (λ _. 1) rows ≡ count name rows
unfolding total counts changes count
total-count name [] = refl
total-count name (e ∷ es) = go (total-count name es) (eqb e.name name)
  where
    go : total name (λ _. 1) es ≡ count name es → (b : Bool)
        → pick b 1 0 + total name (λ _. 1) es ≡ pick b (suc (count name es)) (count name es)
    go below true = omega (arith, below)
    go below false = omega (arith, below)

total-none : (name : ℕ) (w : Entry → ℕ) (rows : List Entry) → count name rows ≡ 0 → total name w rows ≡ 0
unfolding total counts changes count
total-none name w [] h = refl
total-none name w (e ∷ es) h = go (eqb e.name name) h (total-none name w es)
  where
    go : (b : Bool) → pick b (suc (count name es)) (count name es) ≡ 0 → (count name es ≡ 0 → total name w es ≡ 0)
        → pick b (w e) 0 + total name w es ≡ 0
    go true p below = absurd (omega arith)
    go false p below = omega (arith, below p)

total-one : (name : ℕ) (w : Entry → ℕ) (rows : List Entry) → count name rows ≡ 1 → total name w rows ≡ w (find name rows)
unfolding total counts changes count find
total-one name w [] h = absurd (omega arith)
total-one name w (e ∷ es) h = go (eqb e.name name) h (total-one name w es)
  where
    go : (b : Bool) → pick b (suc (count name es)) (count name es) ≡ 1 → (count name es ≡ 1 → total name w es ≡ w (find name es))
        → pick b (w e) 0 + total name w es ≡ w (pick b e (find name es))
    go true p below = omega (arith, total-none name w es (omega arith))
    go false p below = omega (arith, below p)

-- each counts once at least, and twice at most
total-least : (name : ℕ) (w : Entry → ℕ) (rows : List Entry) → ((e : Entry) → 1 ≤ w e) → count name rows ≤ total name w rows
unfolding total counts changes count
total-least name w [] h = omega arith
total-least name w (e ∷ es) h = go (total-least name w es h) (eqb e.name name)
  where
    go : count name es ≤ total name w es → (b : Bool)
        → pick b (suc (count name es)) (count name es) ≤ pick b (w e) 0 + total name w es
    go below true = omega (arith, below, h e)
    go below false = omega (arith, below)

total-most : (name : ℕ) (w : Entry → ℕ) (rows : List Entry) → ((e : Entry) → w e ≤ 2) → total name w rows ≤ 2 * length rows
unfolding total counts changes
total-most name w [] h = omega arith
total-most name w (e ∷ es) h = go (total-most name w es h) (eqb e.name name)
  where
    go : total name w es ≤ 2 * length es → (b : Bool) → pick b (w e) 0 + total name w es ≤ 2 * suc (length es)
    go below true = omega (arith, below, h e)
    go below false = omega (arith, below)

heavy-least : (e : Entry) → 1 ≤ heavy e
unfolding heavy
heavy-least e = picked (λ (n : ℕ). 1 ≤ n) (ltb e.size 4) 2 1 (λ _. omega arith) (λ _. omega arith)

heavy-most : (e : Entry) → heavy e ≤ 2
unfolding heavy
heavy-most e = picked (λ (n : ℕ). n ≤ 2) (ltb e.size 4) 2 1 (λ _. omega arith) (λ _. omega arith)

-- ---- all names

-- the five counts in one number
packed : List Entry → ℕ
packed rows =
    total FMT (λ _. 1) rows
    + 2 ^ 8 * total DATA (λ _. 1) rows
    + 2 ^ 16 * total FACT heavy rows
    + 2 ^ 24 * total BEXT (λ _. 1) rows
    + 2 ^ 32 * total CHNA (λ _. 1) rows

noted-packed : (t : Tally) (rows : List Entry) → (all_noted t rows).met ≡ t.met + packed rows
unfolding all_noted noted weight packed total
noted-packed t [] = omega arith
noted-packed t (e ∷ es) = omega (arith, noted-packed (noted t e) es)

noted-fmt : (t : Tally) (rows : List Entry) → (all_noted t rows).fmt ≡ kept FMT (λ x e. payload_of e) t.fmt rows
unfolding all_noted noted kept
noted-fmt t [] = refl
noted-fmt t (e ∷ es) = noted-fmt (noted t e) es

noted-audio : (t : Tally) (rows : List Entry) → (all_noted t rows).audio ≡ kept DATA (λ x e. payload_of e) t.audio rows
unfolding all_noted noted kept
noted-audio t [] = refl
noted-audio t (e ∷ es) = noted-audio (noted t e) es

noted-fact : (t : Tally) (rows : List Entry) → (all_noted t rows).fact ≡ kept FACT (λ x e. Some e.place) t.fact rows
unfolding all_noted noted kept
noted-fact t [] = refl
noted-fact t (e ∷ es) = noted-fact (noted t e) es

-- ds64 is none of the names
pub noted-ds64 : (t : Tally) (e : Entry) → e.name ≡ DS64 → noted t e ≡ t
noted-ds64 t e p =
    sym (note-none t e (λ q. omega (arith, p, q)) (λ q. omega (arith, p, q)) (λ q. omega (arith, p, q)) (λ q. omega (arith, p, q))
    λ q. omega (arith, p, q))

module _ (rows : List Entry) where
  abbrev all : Tally
  all = all_noted no_tally rows

  pub all-fmt : count FMT rows ≡ 1 → all.fmt ≡ payload_of (find FMT rows)
  all-fmt h = noted-fmt no_tally rows ∙ kept-one FMT _ _ rows h

  pub all-audio : count DATA rows ≡ 1 → all.audio ≡ payload_of (find DATA rows)
  all-audio h = noted-audio no_tally rows ∙ kept-one DATA _ _ rows h

  -- where there is no second fact
  pub all-fact : count FACT rows ≤ 1 → all.fact ≡ fact_in rows
  unfolding fact_in pick no_tally
  all-fact few = go (count FACT rows) refl few
    where
      go : (n : ℕ) → count FACT rows ≡ n → n ≤ 1 → all.fact ≡ pick (eqb n 0) None (Some (find FACT rows).place)
      go zero h k = noted-fact no_tally rows ∙ kept-none FACT _ _ rows h
      go (suc zero) h k = noted-fact no_tally rows ∙ kept-one FACT _ _ rows h
      go (suc (suc n)) h k = absurd (omega arith)

-- ---- check 10

-- each count takes its eight bits of the number
record Counts (rows : List Entry) (met : ℕ) : Type 0 where
  pub pair : met % 2 ^ 16 ≡ count FMT rows + 2 ^ 8 * count DATA rows
  pub fmts : count FMT rows < 2 ^ 8
  pub facts : met / 2 ^ 16 % 2 ^ 8 ≡ total FACT heavy rows
  pub bexts : met / 2 ^ 24 % 2 ^ 8 ≡ count BEXT rows
  pub chnas : met / 2 ^ 32 ≡ count CHNA rows

all-counts : (rows : List Entry) → length rows ≤ LIMIT → Counts rows (all_noted no_tally rows).met
unfolding no_tally packed
all-counts rows few =
    let m : (all_noted no_tally rows).met ≡ 0 + packed rows = noted-packed no_tally rows in
    let a = total-most FMT (λ _. 1) rows (λ _. omega arith) in
    let b = total-most DATA (λ _. 1) rows (λ _. omega arith) in
    let c = total-most FACT heavy rows heavy-most in
    let d = total-most BEXT (λ _. 1) rows (λ _. omega arith) in
    let p = total-count FMT rows in
    let q = total-count DATA rows in
    let u = total-count BEXT rows in
    let v = total-count CHNA rows in
    record {
      pair = omega (arith, m, a, b, p, q);
      fmts = omega (arith, a, p);
      facts = omega (arith, m, a, b, c);
      bexts = omega (arith, m, a, b, c, d, u);
      chnas = omega (arith, m, a, b, c, d, v);
    }

-- a rule of `every` that says the same, and then the rules after it
rules : (b c x y : Bool) → b ≡ c → (c ≡ true → x ≡ y) → pick b x false ≡ pick c y false
unfolding pick
rules b true x y p k = pick_true b x false p ∙ k refl
rules b false x y p k = pick-false b x false p

-- one rule for two numbers of eight bits
pair-rule : (m a b : ℕ) (x y : Bool) → m ≡ a + 2 ^ 8 * b → a < 2 ^ 8 → (a ≡ 1 → b ≡ 1 → x ≡ y)
    → pick (eqb m (1 + 2 ^ 8)) x false ≡ pick (eqb a 1) (pick (eqb b 1) y false) false
unfolding pick
pair-rule m a b x y e l k = go (eqb a 1) refl (eqb b 1) refl
  where
    go : (p : Bool) → eqb a 1 ≡ p → (q : Bool) → eqb b 1 ≡ q → pick (eqb m (1 + 2 ^ 8)) x false ≡ pick p (pick q y false) false
    go true p true q =
        let u = eqb-true a 1 p in
        let v = eqb-true b 1 q in
        pick_true _ x false (eq-eqb m (1 + 2 ^ 8) (omega (arith, e, u, v))) ∙ k u v
    go true p false q = pick-false _ x false (ne_eqb m (1 + 2 ^ 8) (λ z. eqb-false b 1 q (omega (arith, e, z, l))))
    go false p true q = pick-false _ x false (ne_eqb m (1 + 2 ^ 8) (λ z. eqb-false a 1 p (omega (arith, e, z, l))))
    go false p false q = pick-false _ x false (ne_eqb m (1 + 2 ^ 8) (λ z. eqb-false a 1 p (omega (arith, e, z, l))))

-- a fact below 4 bytes counts twice
weighed : (e : Entry) → leb (heavy e) 1 ≡ leb 4 e.size
unfolding heavy
weighed e =
    picked (λ (n : ℕ). leb n 1 ≡ leb 4 e.size) (ltb e.size 4) 2 1
    (λ h. sym (lt-leb 4 e.size (ltb-true _ _ h)))
    (λ h. sym (le-leb 4 e.size (ltb-false _ _ h)))

facts-good : (rows : List Entry)
    → pick (leb (total FACT heavy rows) 1) true false
    ≡ pick (leb (count FACT rows) 1) (pick (eqb (count FACT rows) 0 || leb 4 (find FACT rows).size) true false) false
unfolding pick
facts-good rows = go (count FACT rows) refl
  where
    go : (n : ℕ) → count FACT rows ≡ n
        → pick (leb (total FACT heavy rows) 1) true false
        ≡ pick (leb n 1) (pick (eqb n 0 || leb 4 (find FACT rows).size) true false) false
    go zero h = ap (λ (n : ℕ). pick (leb n 1) true false) (total-none FACT heavy rows h)
    go (suc zero) h =
        ap (λ (b : Bool). pick b true false) (ap (λ (n : ℕ). leb n 1) (total-one FACT heavy rows h) ∙ weighed (find FACT rows))
    go (suc (suc n)) h =
        pick-false _ _ _ (lt-leb (total FACT heavy rows) 1 (omega (arith, h, total-least FACT heavy rows heavy-least)))
        ∙ sym (pick-false _ _ _ (lt-leb (suc (suc n)) 1 (omega arith)))

pub tally-good : (rows : List Entry) → length rows ≤ LIMIT → tally_good (all_noted no_tally rows) ≡ chunks_good rows
unfolding tally_good chunks_good payload_of
tally-good rows few =
    let c = all-counts rows few in
    (pair-rule _ _ _ _ _ c.pair c.fmts λ p q.
    rules _ _ _ _ (ap₂ (λ (x y : Payload). ltb x.place y.place) (all-fmt rows p) (all-audio rows q)) λ _.
    rules _ _ _ _ (ap (λ (n : ℕ). leb n 1) c.bexts) λ _.
    rules _ _ _ _ (ap (λ (n : ℕ). leb n 1) c.chnas) λ _.
    ap (λ (n : ℕ). pick (leb n 1) true false) c.facts ∙ facts-good rows)
