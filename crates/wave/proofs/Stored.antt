-- Rows stored into words, in the middle of a loop: what is due to be stored from here on. The invariant of the 32-bit
-- walk's loop and that of the loops that read an accepted file once more, each with its moves: the start, a row, and the
-- end.
-- Assumes nothing.
use mathlib.Core.Path.{◌≡◌, refl, sym, ap, ap₂, ◌∙◌, subst}
use mathlib.Core.List.{List, [], ◌∷◌}
use Prim.Native.Nat.{ℕ, suc, ◌+◌, ◌-◌, ◌*◌, ◌%◌, ◌≤◌, ◌<◌}
use native.Mathlib.Nat.{zero-add, add-zero}
use native.Mathlib.Omega.{arith}
use lib.ListN.{length, set, length-set}
use lib.Seq.{sets, length-sets}
use Rattle.chunk.specs.declared.Entry.{Entry}
use Rattle.chunk.specs.declared.Refusal.TheVariants.{CutHeader, TooMany}
use Rattle.chunk.specs.declared.Step.{Step}
use Rattle.chunk.specs.declared.Step.TheVariants.{Chunk, Last, Cut, Stop}
use Rattle.chunk.specs.Refusals.{Err, Ok, Verdict}
use Rattle.chunk.specs.Tables.{row_words, set_row, tabled, LIMIT, WORDS}
use Rattle.chunk.specs.Walks.{Rule, Walked, step_at, walk, own_size}
use Rattle.chunk.specs.Walks as walks
use Rattle.chunk.specs.Code.{Due, step_on, walk_after, full}
use Rattle.chunk.proofs.Laid.{step_end, walk-stop}
use Rattle.chunk.proofs.Turns.{turn, turn-due, walk-full, step_cut}
use Rattle.chunk.proofs.Filled.{filled, filled-tabled, row-length}
use Rattle.form.specs.declared.Head.{Head}
use Rattle.listing.specs.Listings.{headers}
use Rattle.listing.specs.Code.{rule}
use Rattle.wave.specs.Code.{rows_from, WalkStored, Finishes, Ended}
use Rattle.wave.proofs.Again.{Again, again-start, Turn, again-turn, again-end}

-- ---- rows stored from a word on

pub rows-length : (w : List ℕ) (at : ℕ) (rows : List Entry) → length (rows_from w at rows) ≡ length w
unfolding rows_from
rows-length w at [] = refl
rows-length w at (e ∷ es) = rows-length (sets w at (row_words e)) (at + 4) es ∙ length-sets w at (row_words e)

pub rows-filled : (w : List ℕ) (i : ℕ) (rows : List Entry) → set (rows_from w (1 + 4 * i) rows) 0 (i + length rows) ≡ filled w i rows
unfolding rows_from filled set_row
rows-filled w i [] = ap (set w 0) (add-zero i)
rows-filled w i (e ∷ es) =
    let p : 1 + 4 * i + 4 ≡ 1 + 4 * (i + 1) = omega arith in
    let q : i + suc (length es) ≡ i + 1 + length es = omega arith in
    ap₂ (λ (k n : ℕ). set (rows_from (sets w (1 + 4 * i) (row_words e)) k es) 0 n) p q
    ∙ rows-filled (sets w (1 + 4 * i) (row_words e)) (i + 1) es

-- all rows, and then their number
pub rows-tabled : (w : List ℕ) (rows : List Entry) (n : ℕ) → n ≡ length rows → 1 + 4 * length rows ≤ length w
    → set (rows_from w 1 rows) 0 n ≡ tabled rows w
rows-tabled w rows n e h =
    let p : 1 ≡ 1 + 4 * 0 = omega arith in
    let q : n ≡ 0 + length rows = omega arith in
    ap₂ (λ (k m : ℕ). set (rows_from w k rows) 0 m) p q ∙ rows-filled w 0 rows ∙ filled-tabled w rows h

-- no row
pub none-tabled : (w : List ℕ) → 1 ≤ length w → set w 0 0 ≡ tabled [] w
unfolding rows_from
none-tabled w h = rows-tabled w [] 0 refl (omega arith)

-- ---- the end of the 32-bit walk

-- a row, and then no header
pub finish-row : (found : Step) (used : ℕ) (w u : List ℕ) (e : Entry) (v : Verdict)
    → walk_after found full ≡ record { rows = e ∷ []; end = v } → u ≡ sets w (1 + 4 * used) (row_words e)
    → Finishes used (walk_after found full) w v (set u 0 (used + 1))
unfolding rows_from
finish-row found used w u e v q p =
    subst (λ (x : Walked). Finishes used x w v (set u 0 (used + 1))) (sym q)
    (record { verdict = refl; words = ap (λ (x : List ℕ). set x 0 (used + 1)) p })

-- no row
pub finish-none : (found : Step) (used : ℕ) (w : List ℕ) (v : Verdict) → walk_after found full ≡ record { rows = []; end = v }
    → Finishes used (walk_after found full) w v (set w 0 used)
unfolding rows_from
finish-none found used w v q =
    subst (λ (x : Walked). Finishes used x w v (set w 0 used)) (sym q)
    (record { verdict = refl; words = ap (set w 0) (sym (add-zero used)) })

pub finish-same : (used : ℕ) (rest : Walked) (w : List ℕ) (v : Verdict) (w' : List ℕ) → Finishes used rest w v w' → length w' ≡ length w
finish-same used rest w v w' f =
    ap length f.words ∙ length-set (rows_from w (1 + 4 * used) rest.rows) 0 _ ∙ rows-length w (1 + 4 * used) rest.rows

-- ---- the 32-bit walk

-- the walk from the header ahead of a place with as many rows used
abbrev from : List ℕ → ℕ → ℕ → Walked
from s used place = walk own_size s (LIMIT - used) (place - 8)

abbrev all : List ℕ → Walked
all s = walk own_size s LIMIT 12

pub record Storing (s w₀ w : List ℕ) (place used : ℕ) : Type 0 where
  pub few : used ≤ LIMIT
  pub due : Due s place
  pub same : length w ≡ length w₀
  pub rows : filled w used (from s used place).rows ≡ filled w₀ 0 (all s).rows
  pub end : (from s used place).end ≡ (all s).end
  pub count : used + length (from s used place).rows ≡ length (all s).rows

pub storing-start : (s w : List ℕ) → 20 ≤ length s → Storing s w w 20 0
storing-start s w h =
    record {
      few = omega arith;
      due = record { start = omega arith; whole = h; even = refl };
      same = refl;
      rows = refl;
      end = refl;
      count = zero-add _;
    }

-- the walk goes on as the step at the header says
step-walks : (s : List ℕ) (place used : ℕ) → Due s place → used < LIMIT
    → from s used place ≡ walk_after (step_on own_size s place) (walk own_size s (LIMIT - (used + 1)))
step-walks s place used d l =
    let p : LIMIT - used ≡ suc (LIMIT - (used + 1)) = omega arith in
    ap (λ (k : ℕ). walk own_size s k (place - 8)) p ∙ turn own_size s (LIMIT - (used + 1)) place d

-- a chunk
pub storing-next : (s w₀ w v : List ℕ) (place used : ℕ) (e : Entry) (to : ℕ) → Storing s w₀ w place used → used < LIMIT
    → step_on own_size s place ≡ Chunk e to → v ≡ sets w (1 + 4 * used) (row_words e) → Storing s w₀ v to (used + 1)
unfolding filled set_row walk_after
storing-next s w₀ w v place used e to g l q p =
    let k = step-walks s place used g.due l ∙ ap (λ (x : Step). walk_after x (walk own_size s (LIMIT - (used + 1)))) q in
    subst (λ (x : List ℕ). Storing s w₀ x to (used + 1)) (sym p)
    (record {
      few = omega arith;
      due = turn-due own_size s place e to g.due.even q;
      same = row-length w used e ∙ g.same;
      rows = sym (ap (λ (x : Walked). filled w used x.rows) k) ∙ g.rows;
      end = sym (ap (λ (x : Walked). x.end) k) ∙ g.end;
      count = omega (arith, g.count, ap (λ (x : Walked). length x.rows) k);
    })

-- the rest of the walk is stored
storing-ends : (s w₀ w : List ℕ) (place used : ℕ) (rest : Walked) (v : Verdict) (w' : List ℕ) → Storing s w₀ w place used
    → WORDS ≤ length w₀ → length (all s).rows ≤ LIMIT → from s used place ≡ rest → Finishes used rest w v w'
    → WalkStored own_size s w₀ v w'
storing-ends s w₀ w place used rest v w' g l few q f =
    record {
      verdict = f.verdict ∙ ap (λ (x : Walked). x.end) (sym q) ∙ g.end;
      words =
          f.words ∙ rows-filled w used rest.rows
          ∙ ap (λ (x : Walked). filled w used x.rows) (sym q) ∙ g.rows
          ∙ filled-tabled w₀ (all s).rows (omega arith);
    }

-- no header follows
one-row : (x : Step) → length (walk_after x full).rows ≤ 1
unfolding walk_after full
one-row (Chunk e to) = omega arith
one-row (Last e) = omega arith
one-row (Cut e) = omega arith
one-row (Stop r) = omega arith

pub storing-stop : (s w₀ w : List ℕ) (place used : ℕ) (found : Step) (v : Verdict) (w' : List ℕ) → Storing s w₀ w place used
    → WORDS ≤ length w₀ → used < LIMIT → found ≡ step_on own_size s place
    → ((rest : ℕ → Walked) → walk_after found rest ≡ walk_after found full) → Finishes used (walk_after found full) w v w'
    → WalkStored own_size s w₀ v w'
storing-stop s w₀ w place used found v w' g l u p q f =
    let rest : ℕ → Walked = walk own_size s (LIMIT - (used + 1)) in
    let k = step-walks s place used g.due u ∙ ap (λ (x : Step). walk_after x rest) (sym p) ∙ q rest in
    storing-ends s w₀ w place used _ v w' g l
    (omega (arith, g.count, ap (λ (x : Walked). length x.rows) k, one-row found)) k f

-- the table is full
pub storing-full : (s w₀ w : List ℕ) (place used : ℕ) → Storing s w₀ w place used → WORDS ≤ length w₀ → LIMIT ≤ used
    → WalkStored own_size s w₀ (Err TooMany) (set w 0 LIMIT)
unfolding full rows_from
storing-full s w₀ w place used g l u =
    let p : LIMIT - used ≡ 0 = omega arith in
    let k = ap (λ (n : ℕ). walk own_size s n (place - 8)) p ∙ walk-full own_size s (place - 8) (omega (arith, g.due.start, g.due.whole)) in
    storing-ends s w₀ w place used _ _ _ g l (omega (arith, g.few, g.count, ap (λ (x : Walked). length x.rows) k)) k
    (record { verdict = refl; words = ap (set w 0) (let e : LIMIT ≡ used + 0 = omega (arith, g.few) in e) })

-- no whole header at byte 12
bare : (s w : List ℕ) (v : Verdict) → WORDS ≤ length w → step_at own_size s LIMIT 12 ≡ walks.Stop v → WalkStored own_size s w v (set w 0 0)
bare s w v l q =
    let k = walk-stop own_size s LIMIT 12 v q in
    record {
      verdict = sym (ap (λ (x : Walked). x.end) k);
      words = none-tabled w (omega arith) ∙ sym (ap (λ (x : Walked). tabled x.rows w) k);
    }

pub bare-end : (s w : List ℕ) → WORDS ≤ length w → length s ≡ 12 → WalkStored own_size s w (Ok tt) (set w 0 0)
bare-end s w l h = bare s w (Ok tt) l (step_end own_size s LIMIT 12 (sym h))

pub bare-cut : (s w : List ℕ) → WORDS ≤ length w → 12 < length s → length s < 20 → WalkStored own_size s w (Err CutHeader) (set w 0 0)
bare-cut s w l h k = bare s w (Err CutHeader) l (step_cut own_size s LIMIT 12 h (omega arith))

-- ---- a listed file's rows

-- of these rows those that are left are due to be stored
pub record Filling (r : Rule) (rows : List Entry) (s w₀ w : List ℕ) (n place i : ℕ) : Type 0 where
  pub left : List Entry
  pub again : Again r s n place i left
  pub room : 1 + 4 * n ≤ length w₀
  pub same : length w ≡ length w₀
  pub words : rows_from w (1 + 4 * i) left ≡ rows_from w₀ 1 rows

pub filling-start : (h : Head) (s w : List ℕ) (n : ℕ) → Ended h s n → 1 + 4 * n ≤ length w
    → Filling (rule h s) (headers h s).rows s w w n 20 0
filling-start h s w n e l =
    record { left = (headers h s).rows; again = again-start h s n e; room = l; same = refl; words = refl }

-- the row at a place, and the rest after it is stored
pub record Ahead (r : Rule) (rows : List Entry) (s w₀ w : List ℕ) (n place i : ℕ) (left : List Entry) : Type 0 where
  pub turn : Turn r s n place i left
  pub holds : 1 + 4 * i + 4 ≤ length w
  pub after : (x : Entry) (v : List ℕ) (to : ℕ) → x ≡ turn.entry → v ≡ sets w (1 + 4 * i) (row_words x)
      → to ≡ place + x.size + x.size % 2 + 8 → Filling r rows s w₀ v n to (i + 1)

module _ (r : Rule) (rows : List Entry) (s w₀ w : List ℕ) (n place i : ℕ) (f : Filling r rows s w₀ w n place i) where
  pub filling-next : i < n → Ahead r rows s w₀ w n place i f.left
  unfolding rows_from
  filling-next k =
      let t = again-turn r s n place i f.left f.again k in
      let y : 1 + 4 * i + 4 ≡ 1 + 4 * (i + 1) = omega arith in
      record {
        turn = t;
        holds = omega (arith, f.same, f.room);
        after = λ x v to z p q. record {
          left = t.rest;
          again = t.after to (q ∙ ap (λ (e : Entry). place + e.size + e.size % 2 + 8) z);
          room = f.room;
          same = ap length p ∙ length-sets w (1 + 4 * i) (row_words x) ∙ f.same;
          words =
              ap₂ (λ (u : List ℕ) (m : ℕ). rows_from u m t.rest)
              (p ∙ ap (λ (e : Entry). sets w (1 + 4 * i) (row_words e)) z) (sym y)
              ∙ sym (ap (rows_from w (1 + 4 * i)) t.split) ∙ f.words;
        };
      }

  pub filling-end : n ≤ i → w ≡ rows_from w₀ 1 rows
  unfolding rows_from
  filling-end k = sym (ap (rows_from w (1 + 4 * i)) (again-end f.again k)) ∙ f.words

pub filled-table : (h : Head) (s w w' : List ℕ) (n : ℕ) → Ended h s n → 1 + 4 * n ≤ length w → w' ≡ rows_from w 1 (headers h s).rows
    → set w' 0 n ≡ tabled (headers h s).rows w
filled-table h s w w' n e l p =
    ap (λ (x : List ℕ). set x 0 n) p ∙ rows-tabled w (headers h s).rows n e.count (omega (arith, l, e.count))
