-- The scan's walk with a tally in place of its table: a chunk of one of the five names changes the tally, chunks of other
-- names change nothing and may be passed, and check 10 of the tally is a chain of tests. So a turn of the loop keeps what
-- the walk tallies.
-- Assumes nothing.
use mathlib.Core.Path.{◌≡◌, refl, sym, ap, ◌∙◌, subst}
use mathlib.Core.Bool.{Bool, true, false, not, ◌&&◌}
use mathlib.Core.List.{List, ◌∷◌}
use Prim.Native.Nat.{ℕ, zero, suc, ◌+◌, ◌-◌, ◌*◌, ◌/◌, ◌%◌, ◌^◌, ◌≤◌, ◌<◌}
use native.Mathlib.Omega.{arith}
use Rattle.std.proofs.Common.{rules}
use lib.ListN.{length, get_or}
use lib.Dec.{eqb, ltb, leb}
use borrow.Author.Tests.{le-leb, lt-leb, leb-true, not-true}
use Rattle.le.specs.Number.{Bytes, number}
use Rattle.le.specs.Choice.{pick}
use Rattle.le.proofs.Laws.{number-split, number-one}
use Rattle.chunk.specs.declared.Entry.{Entry}
use Rattle.chunk.specs.declared.Header.{Header}
use Rattle.chunk.specs.declared.Refusal.TheVariants.{TooMany}
use Rattle.chunk.specs.declared.Step.{Step}
use Rattle.chunk.specs.declared.Step.TheVariants as step
use Rattle.chunk.specs.declared.TrueSize.{TrueSize}
use Rattle.chunk.specs.Refusals.{Answer, Verdict, Err, Ok}
use Rattle.chunk.specs.Names.{FMT, DATA, FACT, BEXT, CHNA, DS64}
use Rattle.chunk.specs.Fields.{ONES}
use Rattle.chunk.specs.Tables.{LIMIT}
use Rattle.chunk.specs.Walks.{Rule, Walked, walk, entry_of, field_size, past}
use Rattle.chunk.specs.Code.{ends_at, placed_in, found_as, step_on, walk_after, full}
use Rattle.chunk.proofs.Checks.{pick_true, pick-false, true-false, rule_and, picked}
use Rattle.chunk.proofs.Turns.{placed-whole, turn, turn-due, walk-full}
use Rattle.form.specs.declared.Head.{Head}
use Rattle.form.specs.declared.Start.{Start}
use Rattle.form.specs.Forms.{is_wide, ds64_at}
use Rattle.form.specs.Code.{place_of, room_of, second}
use Rattle.form.proofs.Heads.{head_opened, wide-head, ds64-rules}
use Rattle.truesize.specs.Code.{Past}
use Rattle.truesize.proofs.Sizes.{true-own}
use Rattle.listing.specs.declared.tally.Tally.{Tally}
use Rattle.listing.specs.declared.headers.Passed.{Passed}
use Rattle.listing.specs.Code.{payload_of, changes, counts, heavy, weight, noted, all_noted, no_tally, Small, tally_good, Near, next_of, passes, passed_from, Nears, rule, Begins, tally_as}

-- ---- one chunk more

-- a chunk of another name changes nothing
pub note-none : (t : Tally) (e : Entry) → (e.name ≡ FMT → ⊥) → (e.name ≡ DATA → ⊥) → (e.name ≡ FACT → ⊥) → (e.name ≡ BEXT → ⊥)
    → (e.name ≡ CHNA → ⊥) → t ≡ noted t e
unfolding noted weight heavy counts changes payload_of pick
note-none t e a b c d f = search rules

-- ---- check 10

-- its rules, joined
pub good-and : (t : Tally) → tally_good t
    ≡ eqb (t.met % 2 ^ 16) (1 + 2 ^ 8) && (ltb t.fmt.place t.audio.place && (leb (t.met / 2 ^ 24 % 2 ^ 8) 1
    && (leb (t.met / 2 ^ 32) 1 && leb (t.met / 2 ^ 16 % 2 ^ 8) 1)))
unfolding tally_good pick
good-and t =
    go (eqb (t.met % 2 ^ 16) (1 + 2 ^ 8)) (ltb t.fmt.place t.audio.place) (leb (t.met / 2 ^ 24 % 2 ^ 8) 1)
    (leb (t.met / 2 ^ 32) 1) (leb (t.met / 2 ^ 16 % 2 ^ 8) 1)
  where
    go : (a b c d e : Bool) → pick a (pick b (pick c (pick d (pick e true false) false) false) false) false ≡ a && (b && (c && (d && e)))
    go true true true true true = refl
    go true true true true false = refl
    go true true true false e = refl
    go true true false d e = refl
    go true false c d e = refl
    go false b c d e = refl

-- ---- counts are small

-- after n chunks
pub record Below (n : ℕ) (t : Tally) : Type 0 where
  pub met : t.met ≤ 2 ^ 33 * n

pub below_none : (n : ℕ) → Below n no_tally
unfolding no_tally
below_none n = record { met = omega arith }

pub below_more : (m n : ℕ) (t : Tally) → m ≤ n → Below m t → Below n t
below_more m n t h b = record { met = omega (arith, b.met) }

pub below-small : (n : ℕ) (t : Tally) → n ≤ LIMIT → Below n t → Small t
below-small n t h b = record { met = omega (arith, b.met) }

-- one chunk more
pub below-noted : (n : ℕ) (t : Tally) (e : Entry) → Below n t → Below (n + 1) (noted t e)
unfolding noted weight heavy counts changes
below-noted n t e b =
    record {
      met =
          omega (
            arith,
            b.met,
            most FMT 1,
            most DATA 1,
            most FACT (heavy e),
            picked (λ (k : ℕ). k ≤ 2) (ltb e.size 4) 2 1 (λ _. omega arith) (λ _. omega arith),
            most BEXT 1,
            most CHNA 1,
          );
    }
  where
    most : (name n : ℕ) → counts name n e ≤ n
    most name n = picked (λ (k : ℕ). k ≤ n) (eqb e.name name) _ _ (λ _. omega arith) (λ _. omega arith)

-- ---- a chunk that is passed

-- what the test tells
pub record Passes (near place : ℕ) (s : List ℕ) : Type 0 where
  pub letter : 98 ≤ get_or s (place - 8) 0 → get_or s (place - 8) 0 ≤ 102 → ⊥
  pub inside : next_of place s ≤ near

between : (l : ℕ) → (98 ≤ l → l ≤ 102 → ⊥) → leb 98 l && leb l 102 ≡ false
between l h = go (leb 98 l) refl
  where
    go : (b : Bool) → leb 98 l ≡ b → b && leb l 102 ≡ false
    go true p = out (leb l 102) refl
      where
        out : (c : Bool) → leb l 102 ≡ c → c ≡ false
        out true q = absurd (h (leb-true 98 l p) (leb-true l 102 q))
        out false q = refl
    go false p = refl

pub pass-letter : (near place : ℕ) (s : List ℕ) → 98 ≤ get_or s (place - 8) 0 → get_or s (place - 8) 0 ≤ 102 → passes near place s ≡ false
unfolding passes
pass-letter near place s h k = rw (le-leb 98 (get_or s (place - 8) 0) h, le-leb (get_or s (place - 8) 0) 102 k)

pub pass-end : (near place : ℕ) (s : List ℕ) → (98 ≤ get_or s (place - 8) 0 → get_or s (place - 8) 0 ≤ 102 → ⊥) → near < next_of place s
    → passes near place s ≡ false
unfolding passes
pass-end near place s l h = rw (between (get_or s (place - 8) 0) l, lt-leb (next_of place s) near h)

pub pass-true : (near place : ℕ) (s : List ℕ) → Passes near place s → passes near place s ≡ true
unfolding passes
pass-true near place s p = rw (between (get_or s (place - 8) 0) p.letter, le-leb (next_of place s) near p.inside)

true-pass : (near place : ℕ) (s : List ℕ) → passes near place s ≡ true → Passes near place s
unfolding passes
true-pass near place s e =
    let c1 = rule_and (not (leb 98 (get_or s (place - 8) 0) && leb (get_or s (place - 8) 0) 102)) _ e in
    let c2 = rule_and (leb (next_of place s) near) _ c1.1 in
    record {
      letter = λ h k.
          true-false (leb 98 (get_or s (place - 8) 0) && leb (get_or s (place - 8) 0) 102)
          (rw (le-leb 98 (get_or s (place - 8) 0) h, le-leb (get_or s (place - 8) 0) 102 k)) (not-true _ c1.0);
      inside = leb-true _ _ c2.0;
    }

-- its field is its size
pass-own : (near place : ℕ) (s : List ℕ) → Nears s near place → Passes near place s → number 4 (place - 4) s ≡ ONES → ⊥
unfolding next_of
pass-own near place s n p e = absurd (omega (arith, n.end.close, p.inside, e))

-- what is near at a place is near further on
pub near_on : (s : List ℕ) (near place to : ℕ) → place ≤ to → Near (length s) place near → Near (length s) to near
near_on s near place to h n = record { inside = n.inside; close = omega (arith, n.close) }

pub next-on : (place : ℕ) (s : List ℕ) → place ≤ next_of place s
unfolding next_of
next-on place s = omega arith

-- so a whole header follows
pub next-due : (near place : ℕ) (s : List ℕ) → Nears s near place → Passes near place s → Nears s near (next_of place s)
unfolding next_of
next-due near place s d p =
    record {
      due = record { start = omega arith; whole = omega (arith, d.end.inside, p.inside); even = omega (arith, d.due.even) };
      end = near_on s near place _ (next-on place s) d.end;
    }

-- ---- the run of them

module _ (s : List ℕ) (near : ℕ) where
  pub passed-stay : (room place : ℕ) → passes near place s ≡ false → passed_from s near room place ≡ record { place = place; room = room }
  unfolding passed_from
  passed-stay zero place e = refl
  passed-stay (suc room) place e = pick-false _ _ _ e

  passed-next : (room place : ℕ) → passes near place s ≡ true → passed_from s near (suc room) place ≡ passed_from s near room (next_of place s)
  unfolding passed_from
  passed-next room place e = pick_true _ _ _ e

  pub passed_on : (room place : ℕ) → 0 < room → passes near place s ≡ true
      → passed_from s near room place ≡ passed_from s near (room - 1) (next_of place s)
  passed_on zero place h e = absurd (omega arith)
  passed_on (suc room) place h e = passed-next room place e ∙ ap (λ (k : ℕ). passed_from s near k (next_of place s)) (omega arith)

  pub passed_none : (room place : ℕ) → room ≡ 0 → passed_from s near room place ≡ record { place = place; room = room }
  unfolding passed_from
  passed_none zero place e = refl
  passed_none (suc room) place e = absurd (omega arith)

-- ---- what a walk tallies

tally-rows : (f : Header) (n : ℕ) (t : Tally) (e : Entry) (rows : List Entry) (v : Verdict)
    → tally_as f n t (record { rows = e ∷ rows; end = v }) ≡ tally_as f (n + 1) (noted t e) (record { rows = rows; end = v })
unfolding tally_as all_noted
tally-rows f n t e rows (Ok a) =
    ap (λ (k : ℕ). Ok (record { tally = all_noted (noted t e) rows; first = f; count = k })) (omega arith)
tally-rows f n t e rows (Err r) = refl

-- the walk's first row is noted
pub tally-chunk : (f : Header) (n : ℕ) (t : Tally) (e : Entry) (w : Walked)
    → tally_as f n t (record { rows = e ∷ w.rows; end = w.end }) ≡ tally_as f (n + 1) (noted t e) w
tally-chunk f n t e w = tally-rows f n t e w.rows w.end

pub tally-full : (f : Header) (n : ℕ) (t : Tally) (at : ℕ) → tally_as f n t (full at) ≡ Err TooMany
unfolding tally_as full
tally-full f n t at = refl

-- ---- passed chunks change nothing

module _ (h : Head) (s : List ℕ) (b : Bytes s) where
  -- a name that starts with another letter is none of those that a rule asks for
  starts : (at : ℕ) → at + 4 ≤ length s → (98 ≤ get_or s at 0 → get_or s at 0 ≤ 102 → ⊥) → (name : ℕ) → 98 ≤ name % 256 → name % 256 ≤ 102
      → number 4 at s ≡ name → ⊥
  unfolding Bytes
  starts at l n name lo hi e =
      let w : number 4 at s ≡ number 1 at s + 256 * number 3 (at + 1) s = number-split 1 3 at s (omega arith) in
      let v : number 1 at s ≡ get_or s at 0 = number-one at s (omega arith) in
      let x : get_or s at 0 ≡ name % 256 = omega (arith, w, v, e, b at) in
      n (omega (arith, x)) (omega (arith, x))

  module _ (near place : ℕ) (d : Nears s near place) (p : Passes near place s) where
    entry : Entry
    entry = entry_of place (number 4 (place - 8) s) (field_size (number 4 (place - 4) s))

    unnamed : (name : ℕ) → 98 ≤ name % 256 → name % 256 ≤ 102 → number 4 (place - 8) s ≡ name → ⊥
    unnamed = starts (place - 8) (omega (arith, d.due.start, d.due.whole)) p.letter

    passes-step : step_on (rule h s) s place ≡ step.Chunk entry (next_of place s)
    unfolding step_on found_as entry past next_of
    passes-step =
        ap (found_as (length s) place (number 4 (place - 8) s))
        (true-own h _ (place - 8) _ _ (unnamed DS64 (omega arith) (omega arith)) (pass-own near place s d p))
        ∙ placed-whole (length s) entry (omega (arith, p.inside, d.end.inside))

    passes-noted : (t : Tally) → noted t entry ≡ t
    unfolding entry
    passes-noted t =
        sym (note-none t entry (unnamed FMT (omega arith) (omega arith)) (unnamed DATA (omega arith) (omega arith))
        (unnamed FACT (omega arith) (omega arith)) (unnamed BEXT (omega arith) (omega arith)) (unnamed CHNA (omega arith) (omega arith)))

    -- one of them
    passes-tally : (f : Header) (n room : ℕ) (t : Tally)
        → tally_as f n t (walk (rule h s) s (suc room) (place - 8)) ≡ tally_as f (n + 1) t (walk (rule h s) s room (next_of place s - 8))
    unfolding walk_after
    passes-tally f n room t =
        ap (tally_as f n t) (turn (rule h s) s room place d.due ∙ ap (λ (x : Step). walk_after x (walk (rule h s) s room)) passes-step)
        ∙ tally-chunk f n t entry (walk (rule h s) s room (next_of place s - 8))
        ∙ ap (λ (u : Tally). tally_as f (n + 1) u (walk (rule h s) s room (next_of place s - 8))) (passes-noted t)

  -- a run of them, where room headers more may come
  pub record Skips (near : ℕ) (f : Header) (t : Tally) (room place : ℕ) (p : Passed) : Type 0 where
    pub nears : Nears s near p.place
    pub on : place ≤ p.place
    pub few : p.room ≤ room
    pub same : tally_as f (LIMIT - room) t (walk (rule h s) s room (place - 8))
        ≡ tally_as f (LIMIT - p.room) t (walk (rule h s) s p.room (p.place - 8))

  pub skips : (near : ℕ) (f : Header) (t : Tally) (room place : ℕ) → room ≤ LIMIT → Nears s near place
      → Skips near f t room place (passed_from s near room place)
  skips near f t zero place l d =
      subst (Skips near f t zero place) (sym (passed_none s near zero place refl))
      (record { nears = d; on = omega arith; few = omega arith; same = refl })
  skips near f t (suc room) place l d = go (λ (at : ℕ). skips near f t room at (omega arith)) (passes near place s) refl
    where
      go : ((at : ℕ) → Nears s near at → Skips near f t room at (passed_from s near room at)) → (c : Bool) → passes near place s ≡ c
          → Skips near f t (suc room) place (passed_from s near (suc room) place)
      go below false e =
          subst (Skips near f t (suc room) place) (sym (passed-stay s near (suc room) place e))
          (record { nears = d; on = omega arith; few = omega arith; same = refl })
      go below true e =
          let p = true-pass near place s e in
          let r = below (next_of place s) (next-due near place s d p) in
          let k : LIMIT - suc room + 1 ≡ LIMIT - room = omega arith in
          subst (Skips near f t (suc room) place) (sym (passed-next s near room place e))
          (record {
            nears = r.nears;
            on = omega (arith, r.on, next-on place s);
            few = omega (arith, r.few);
            same =
                passes-tally near place d p f (LIMIT - suc room) room t
                ∙ ap (λ (n : ℕ). tally_as f n t (walk (rule h s) s room (next_of place s - 8))) k
                ∙ r.same;
          })

-- ---- the loop

-- where the walk past ds64 starts
pub record Starts (s : List ℕ) (o : Start) : Type 0 where
  pub past : Past o.head s o.place
  pub some : 1 ≤ o.room
  pub few : o.room ≤ LIMIT

pub begins : (s : List ℕ) (o : Start) → Begins s o → Starts s o
unfolding place_of room_of ds64_at
begins s o b = go (is_wide o.head.form) refl
  where
    go : (w : Bool) → is_wide o.head.form ≡ w → Starts s o
    go false w =
        let p : o.place ≡ 20 = b.place ∙ pick-false _ _ _ w in
        let r : o.room ≡ LIMIT = b.room ∙ pick-false _ _ _ w in
        record {
          past =
              record {
                fit = record { inside = λ v. absurd (true-false _ v w); few = λ v. absurd (true-false _ v w) };
                due = record { start = omega arith; whole = b.whole; even = omega (arith, p) };
                later = λ v. absurd (true-false _ v w);
              };
          some = omega arith;
          few = omega arith;
        }
    go true w =
        let h = wide-head o.head.form s o.head w (head_opened s o.head b.head).head in
        let d = ds64-rules _ _ _ _ h.0 in
        let n : o.head.ds64.count ≡ number 4 44 s = ap (λ (x : Head). x.ds64.count) h.1 in
        let p : o.place ≡ second (number 4 16 s) = b.place ∙ pick_true _ _ _ w in
        let r : o.room ≡ LIMIT - 1 = b.room ∙ pick_true _ _ _ w in
        record {
          past =
              record {
                fit = record { inside = λ _. omega (arith, n, d.holds, d.ends); few = λ _. omega (arith, n, d.few) };
                due = record { start = omega arith; whole = b.whole; even = omega (arith, p) };
                later = λ _. omega arith;
              };
          some = omega arith;
          few = omega arith;
        }

-- a chunk ends past its start
turn_on : (r : Rule) (s : List ℕ) (place : ℕ) (e : Entry) (to : ℕ) → step_on r s place ≡ step.Chunk e to → place ≤ to
unfolding step_on found_as placed_in ends_at past
turn_on r s place e to q = go (r (place - 8) (number 4 (place - 8) s) (number 4 (place - 4) s)) q
  where
    P : Step → Type 0
    P x = x ≡ step.Chunk e to → place ≤ to

    go : (x : Answer TrueSize) → found_as (length s) place (number 4 (place - 8) s) x ≡ step.Chunk e to → place ≤ to
    go (Err z) p = absurd (let z : ◌≡◌ {A = ℕ} 0 1 = cc in omega arith)
    go (Ok size) p =
        let f : Entry = entry_of place (number 4 (place - 8) s) size in
        (picked P (leb (past f + 8) (length s)) _ _ (λ _ p. let t : past f + 8 ≡ to = cc in omega (arith, t)) λ _.
        picked P (ltb (length s) (past f)) _ _ (λ _ p. absurd (let z : ◌≡◌ {A = ℕ} 0 1 = cc in omega arith)) λ _.
        picked P (eqb (length s) (past f)) _ _ (λ _ p. absurd (let z : ◌≡◌ {A = ℕ} 0 1 = cc in omega arith))
        (λ _ p. absurd (let z : ◌≡◌ {A = ℕ} 0 1 = cc in omega arith))) p

-- what the walk from the start tallies is what the walk from here adds to this tally
pub record Going (h : Head) (s : List ℕ) (near : ℕ) (f : Header) (place₀ room₀ place room : ℕ) (t : Tally) : Type 0 where
  pub past : Past h s place
  pub close : Near (length s) place near
  pub few : room ≤ LIMIT
  pub below : Below (LIMIT - room) t
  pub same : tally_as f (LIMIT - room) t (walk (rule h s) s room (place - 8))
      ≡ tally_as f (LIMIT - room₀) no_tally (walk (rule h s) s room₀ (place₀ - 8))

pub going_start : (s : List ℕ) (o : Start) (near : ℕ) (f : Header) (t : Tally) → Begins s o → Near (length s) o.place near → t ≡ no_tally
    → Going o.head s near f o.place o.room o.place o.room t
going_start s o near f t b n e =
    let i = begins s o b in
    subst (Going o.head s near f o.place o.room o.place o.room) (sym e)
    (record { past = i.past; close = n; few = i.few; below = below_none _; same = refl })

module _ (h : Head) (s : List ℕ) (near : ℕ) (f : Header) (place₀ room₀ place room : ℕ) (t : Tally)
    (g : Going h s near f place₀ room₀ place room t) where
  -- a turn
  turned : 1 ≤ room → walk (rule h s) s room (place - 8) ≡ walk_after (step_on (rule h s) s place) (walk (rule h s) s (room - 1))
  turned k =
      let r : room ≡ suc (room - 1) = omega arith in
      ap (λ (n : ℕ). walk (rule h s) s n (place - 8)) r ∙ turn (rule h s) s (room - 1) place g.past.due

  -- the step says what is tallied
  pub going-step : (x : Step) → 1 ≤ room → x ≡ step_on (rule h s) s place
      → tally_as f (LIMIT - room) t (walk_after x (walk (rule h s) s (room - 1)))
      ≡ tally_as f (LIMIT - room₀) no_tally (walk (rule h s) s room₀ (place₀ - 8))
  going-step x k e =
      ap (tally_as f (LIMIT - room) t) (ap (λ (y : Step). walk_after y (walk (rule h s) s (room - 1))) e ∙ sym (turned k))
      ∙ g.same

  -- no header more may come
  pub going-full : room ≡ 0 → Err TooMany ≡ tally_as f (LIMIT - room₀) no_tally (walk (rule h s) s room₀ (place₀ - 8))
  going-full e =
      let d = g.past.due in
      sym (tally-full f (LIMIT - room) t (place - 8))
      ∙ ap (tally_as f (LIMIT - room) t)
      (sym (walk-full (rule h s) s (place - 8) (omega (arith, d.start, d.whole))) ∙ ap (λ (n : ℕ). walk (rule h s) s n (place - 8)) (sym e))
      ∙ g.same

  -- a chunk's next header is whole, and near the end as before
  pub going-nears : (x : Step) (e : Entry) (to : ℕ) → x ≡ step_on (rule h s) s place → x ≡ step.Chunk e to → Nears s near to
  going-nears x e to y z =
      let q = sym y ∙ z in
      record {
        due = turn-due (rule h s) s place e to g.past.due.even q;
        end = near_on s near place to (turn_on (rule h s) s place e to q) g.close;
      }

  -- a chunk, and those that are passed after it
  pub going_next : (x : Step) (e : Entry) (to : ℕ) (u : Tally) (p : Passed) → Bytes s → 1 ≤ room → x ≡ step_on (rule h s) s place
      → x ≡ step.Chunk e to → u ≡ noted t e → p ≡ passed_from s near (room - 1) to
      → Going h s near f place₀ room₀ p.place p.room u × (p.room < room)
  unfolding walk_after
  going_next x e to u p b k y c v w =
      let q = sym y ∙ c in
      subst (λ (x : Tally). Going h s near f place₀ room₀ p.place p.room x × (p.room < room)) (sym v)
      (subst (λ (x : Passed). Going h s near f place₀ room₀ x.place x.room (noted t e) × (x.room < room)) (sym w) (
      let z = skips h s b near f (noted t e) (room - 1) to (omega (arith, g.few)) (going-nears x e to y c) in
      let n : LIMIT - room + 1 ≡ LIMIT - (room - 1) = omega (arith, g.few) in (
        record {
          past =
              record {
                fit = g.past.fit;
                due = z.nears.due;
                later = λ x. omega (arith, g.past.later x, z.on, turn_on (rule h s) s place e to q);
              };
          close = z.nears.end;
          few = omega (arith, g.few, z.few);
          below = below_more _ _ _ (omega (arith, g.few, z.few)) (below-noted (LIMIT - room) t e g.below);
          same =
              sym z.same
              ∙ sym (ap (λ (m : ℕ). tally_as f m (noted t e) (walk (rule h s) s (room - 1) (to - 8))) n)
              ∙ sym (tally-chunk f (LIMIT - room) t e (walk (rule h s) s (room - 1) (to - 8)))
              ∙ sym (ap (tally_as f (LIMIT - room) t) (turned k ∙ ap (λ (x : Step). walk_after x (walk (rule h s) s (room - 1))) q))
              ∙ g.same;
        },
        omega (arith, z.few),
      )))
