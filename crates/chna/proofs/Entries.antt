-- The entries of a payload one by one: entry i is the i-th of all, and past the last there is none.
-- Assumes nothing.
use mathlib.Core.Path.{◌≡◌, refl, sym, ap, ◌∙◌}
use mathlib.Core.Bool.{Bool, true, false}
use mathlib.Core.List.{List}
use Prim.Native.Nat.{ℕ, zero, suc, ◌+◌, ◌*◌, ◌/◌, ◌<◌, ◌≤◌}
use native.Mathlib.Omega.{arith}
use lib.ListN.{length, take, drop, get_or, length-take, length-drop, get_or-eq_default}
use lib.Seq.{drop-drop, drop_at, take-add, take-take, length-take-le}
use lib.Dec.{leb, ltb}
use borrow.Author.Tests.{leb-true, leb-false, ltb-true, ltb-false, eq-eqb, ne_eqb}
use Rattle.le.specs.Choice.{pick}
use Rattle.le.specs.Number.{field}
use Rattle.le.proofs.Laws.{field-length}
use Rattle.chunk.specs.Refusals.{Ok}
use Rattle.chna_entry.specs.Ids.{fits, UNUSED}
use Rattle.chna_entry.specs.Entries.{Used, unused, used, used_in, entry_in, whole_entry}
use Rattle.chna.specs.Records.{entry_at, EntryStands, entries_at, entries_in, Whole, whole_of, whole_in, chna_in}
use Rattle.chna.proofs.Counts.{entries-count}
use Rattle.chna.proofs.Answers.{accepted}

pub entry-there : (i : ℕ) (p : List ℕ) → 4 + i * 40 + 40 ≤ length p → entry_at i p ≡ entry_in (field 40 (4 + i * 40) p)
unfolding entry_at whole_entry pick
entry-there i p h = rw (eq-eqb (length (field 40 (4 + i * 40) p)) 40 (field-length 40 (4 + i * 40) p h)) refl

pub entry_past : (i : ℕ) (p : List ℕ) → length p < 4 + i * 40 + 40 → entry_at i p ≡ unused
unfolding entry_at whole_entry field pick
entry_past i p h =
    rw (ne_eqb (length (field 40 (4 + i * 40) p)) 40 (λ e. omega (arith, length-take 40 (drop (4 + i * 40) p), length-drop (4 + i * 40) p))) refl

-- ---- among all entries

among : (n i : ℕ) (s : List ℕ) → i < n → get_or (entries_at n s) i unused ≡ entry_in (field 40 (i * 40) s)
unfolding entries_at field
among zero i s h = absurd (omega arith)
among (suc n) zero s h = refl
among (suc n) (suc i) s h =
    let at : 40 + i * 40 ≡ suc i * 40 = omega arith in
    among n i (drop 40 s) (omega arith)
    ∙ ap (λ (l : List ℕ). entry_in (take 40 l)) (drop-drop (i * 40) 40 s ∙ ap (λ (k : ℕ). drop k s) at)

-- of any payload
pub each : (i : ℕ) (p : List ℕ) → entry_at i p ≡ get_or (entries_in (drop 4 p)) i unused
unfolding entries_in field
each i p = by (ltb i (length (drop 4 p) / 40)) refl where
  by : (b : Bool) → ltb i (length (drop 4 p) / 40) ≡ b → entry_at i p ≡ get_or (entries_in (drop 4 p)) i unused
  by true e =
      let h : i < length (drop 4 p) / 40 = ltb-true i (length (drop 4 p) / 40) e in
      entry-there i p (omega (arith, length-drop 4 p))
      ∙ sym (among (length (drop 4 p) / 40) i (drop 4 p) h ∙ ap (λ (l : List ℕ). entry_in (take 40 l)) (drop-drop (i * 40) 4 p))
  by false e =
      let h : length (drop 4 p) / 40 ≤ i = ltb-false i (length (drop 4 p) / 40) e in
      entry_past i p (omega (arith, length-drop 4 p))
      ∙ sym (get_or-eq_default (entries_in (drop 4 p)) unused (omega (arith, entries-count (drop 4 p))))

-- entry i of an accepted payload is the i-th of the record's, for every i below their number; past it, it is not used
pub entry-of-record : (channels : ℕ) (p : List ℕ) (w : Whole) → chna_in channels p ≡ Ok w
    → (i : ℕ) → entry_at i p ≡ get_or w.entries i unused
unfolding whole_in whole_of
entry-of-record channels p w e i =
    each i p ∙ ap (λ (x : Whole). get_or x.entries i unused) (accepted channels p w e).is

-- ---- where the parts of a used entry stand

-- a part of a part
field_in : (n k m at : ℕ) (p : List ℕ) → at + (k + m) ≤ length p → n ≤ m → field n k (field (k + m) at p) ≡ field n (at + k) p
unfolding field
field_in n k m at p fits h =
    let q : List ℕ = drop at p in
    ap (λ (l : List ℕ). take n (drop k l)) (take-add k m q)
    ∙ ap (take n) (drop_at (take k q) (take m (drop k q)) k (length-take-le k q (omega (arith, length-drop at p))))
    ∙ take-take n m (drop k q) h
    ∙ ap (take n) (drop-drop k at p)

pub entry_stands : (i : ℕ) (p : List ℕ) (u : Used) → entry_at i p ≡ used u → EntryStands i p u
unfolding entry_in used_in pick
entry_stands i p u e = by (leb (4 + i * 40 + 40) (length p)) refl
  where
    in-it : 4 + i * 40 + 40 ≤ length p → (b : Bool) → pick b unused (used (used_in (field 40 (4 + i * 40) p))) ≡ used u → EntryStands i p u
    in-it h true f = absurd (let z : ◌≡◌ {A = ℕ} 0 1 = cc in omega arith)
    in-it h false f =
        let g : used_in (field 40 (4 + i * 40) p) ≡ u = cc in
        record {
          uid = sym (field_in 12 2 38 (4 + i * 40) p (omega arith) (omega arith)) ∙ ap (λ (x : Used). x.uid) g;
          track = sym (field_in 14 14 26 (4 + i * 40) p (omega arith) (omega arith)) ∙ ap (λ (x : Used). x.track) g;
          pack = sym (field_in 11 28 12 (4 + i * 40) p (omega arith) (omega arith)) ∙ ap (λ (x : Used). x.pack) g;
        }

    by : (b : Bool) → leb (4 + i * 40 + 40) (length p) ≡ b → EntryStands i p u
    by true h =
        let there : 4 + i * 40 + 40 ≤ length p = leb-true (4 + i * 40 + 40) (length p) h in
        in-it there (fits UNUSED (field 40 (4 + i * 40) p)) (sym (entry-there i p there) ∙ e)
    by false h =
        let past : unused ≡ used u = sym (entry_past i p (leb-false (4 + i * 40 + 40) (length p) h)) ∙ e in
        absurd (let z : ◌≡◌ {A = ℕ} 0 1 = cc in omega arith)
