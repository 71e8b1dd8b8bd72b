-- The entries from the last to the first: what is known once those from an entry on are judged, and how one more is added.
-- Assumes nothing.
use mathlib.Core.Path.{◌≡◌, refl, sym, ap, ap₂, ◌∙◌, subst}
use mathlib.Core.Bool.{Bool, true, false}
use mathlib.Core.List.{List, [], ◌∷◌}
use Prim.Native.Nat.{ℕ, zero, suc, ◌+◌, ◌-◌, ◌*◌, ◌/◌, ◌≤◌, ◌<◌}
use native.Mathlib.Omega.{arith}
use native.Mathlib.Nat.{zero-add, suc-add, add-sub_cancel_left}
use lib.ListN.{length, take, drop, replicate, length-set, length-replicate}
use lib.Seq.{drop-drop}
use native.Mathlib.Numerals.{add-one}
use lib.Dec.{eqb, leb}
use borrow.Author.Tests.{le-leb, lt-leb}
use Rattle.le.specs.Number.{field, number}
use Rattle.le.specs.Choice.{pick, every}
use Rattle.chna_entry.specs.Ids.{fits, UNUSED}
use Rattle.chna_entry.specs.Entries.{Entry, unused, used, used_in, entry_in, used_good, entry_good}
use Rattle.chna.specs.Records.{entries_at, entries_in, entries_good, indices, occurs, different, whole_of, whole_good}
use Rattle.chunk.proofs.Checks.{pick_true, pick-false}
use Rattle.chna_entry.proofs.Patterns.{both, itself}
use Rattle.chna.proofs.Marks.{bit, marked, bit-marked, bit-none}

-- an entry's bytes, as the code lends them
pub lent : (at : ℕ) (s : List ℕ) → field 40 at s ≡ take (at + 40 - at) (drop at s)
unfolding field
lent at s = ap (λ (k : ℕ). take k (drop at s)) (sym (add-sub_cancel_left at 40))

-- the entries from one on
unfoldable pub from : ℕ → List ℕ → List Entry
from left s = entries_at (length s / 40 - left) (drop (left * 40) s)

-- one more in front
from_cons : (left : ℕ) (s : List ℕ) → left < length s / 40
    → from left s ≡ entry_in (field 40 (left * 40) s) ∷ from (suc left) s
unfolding from entries_at field
from_cons left s h =
    let n : length s / 40 - left ≡ suc (length s / 40 - suc left) = omega arith in
    let k : left * 40 + 40 ≡ suc left * 40 = omega arith in
    ap (λ (m : ℕ). entries_at m (drop (left * 40) s)) n
    ∙ ap (λ (t : List ℕ). entry_in (take 40 (drop (left * 40) s)) ∷ entries_at (length s / 40 - suc left) t)
    (drop-drop 40 (left * 40) s ∙ ap (λ (m : ℕ). drop m s) k)

from_all : (s : List ℕ) → from 0 s ≡ entries_in s
unfolding from entries_in
from_all s = ap (λ (m : ℕ). entries_at m s) (omega arith)

from-none : (s : List ℕ) → from (length s / 40) s ≡ []
unfolding from entries_at
from-none s =
    let n : length s / 40 - length s / 40 ≡ 0 = omega arith in
    ap (λ (m : ℕ). entries_at m (drop (length s / 40 * 40) s)) n

at_count : (n : ℕ) (s : List ℕ) → length (entries_at n s) ≡ n
unfolding entries_at
at_count zero s = refl
at_count (suc n) s = ap suc (at_count n (drop 40 s))

pub entries-count : (s : List ℕ) → length (entries_in s) ≡ length s / 40
unfolding entries_in
entries-count s = at_count (length s / 40) s

-- what a full turn knows
pub record Counted (channels : ℕ) (s : List ℕ) (left : ℕ) (marks : List ℕ) (tracks uids : ℕ) : Type 0 where
  pub within : left ≤ length s / 40
  pub few : length s / 40 ≤ 1024
  pub good : entries_good channels (from left s) ≡ true
  pub used_so_far : uids ≡ length (indices (from left s))
  pub different_so_far : tracks ≡ different (indices (from left s))
  pub bits : (k : ℕ) → bit marks k ≡ pick (occurs k (indices (from left s))) 1 0
  pub words : length marks ≡ 1024
  pub room : uids + left ≤ 1024
  pub fewer : tracks ≤ uids

-- of marks and a count that are the same
pub moved : (channels : ℕ) (s : List ℕ) (left : ℕ) (marks marks' : List ℕ) (tracks tracks' uids : ℕ)
    → marks ≡ marks' → tracks ≡ tracks' → Counted channels s left marks tracks uids → Counted channels s left marks' tracks' uids
moved channels s left marks marks' tracks tracks' uids p q c =
    subst (λ (m : List ℕ). Counted channels s left m tracks' uids) p
    (subst (λ (t : ℕ). Counted channels s left marks t uids) q c)

-- none yet
pub at-end : (channels : ℕ) (s : List ℕ) → length s / 40 ≤ 1024 → Counted channels s (length s / 40) (replicate 1024 0) 0 0
unfolding entries_good indices different occurs pick
at-end channels s h =
    let none = from-none s in
    record {
      within = omega arith;
      few = h;
      good = ap (entries_good channels) none;
      used_so_far = sym (ap (λ (es : List Entry). length (indices es)) none);
      different_so_far = sym (ap (λ (es : List Entry). different (indices es)) none);
      bits = λ k. bit-none 1024 k ∙ sym (ap (λ (es : List Entry). pick (occurs k (indices es)) 1 0) none);
      words = length-replicate {A = ℕ} 1024 0;
      room = omega arith;
      fewer = omega arith;
    }

-- an unused entry
pub one-unused : (channels : ℕ) (s : List ℕ) (left : ℕ) (marks : List ℕ) (tracks uids : ℕ)
    → fits UNUSED (field 40 (left * 40) s) ≡ true
    → Counted channels s (suc left) marks tracks uids
    → Counted channels s left marks tracks uids
unfolding entries_good entry_good entry_in indices pick
one-unused channels s left marks tracks uids u c =
    let cons : from left s ≡ unused ∷ from (suc left) s =
    from_cons left s c.within ∙ ap (λ (b : Bool). pick b unused (used (used_in (field 40 (left * 40) s))) ∷ from (suc left) s) u in
    record {
      within = omega arith;
      few = c.few;
      good = ap (entries_good channels) cons ∙ c.good;
      used_so_far = c.used_so_far ∙ sym (ap (λ (es : List Entry). length (indices es)) cons);
      different_so_far = c.different_so_far ∙ sym (ap (λ (es : List Entry). different (indices es)) cons);
      bits = λ k. c.bits k ∙ sym (ap (λ (es : List Entry). pick (occurs k (indices es)) 1 0) cons);
      words = c.words;
      room = omega arith;
      fewer = c.fewer;
    }

-- a used one
counted-once : (b : Bool) (tracks d x : ℕ) → tracks ≡ d → x ≡ pick b 1 0 → tracks + (1 - x) ≡ pick b d (suc d)
unfolding pick
counted-once true tracks d x e f = omega arith
counted-once false tracks d x e f = omega arith

one_bit : (b o : Bool) → ◌≡◌ {A = ℕ} (pick b 1 (pick o 1 0)) (pick (pick b true o) 1 0)
unfolding pick
one_bit true o = refl
one_bit false o = refl

pub one-used : (channels : ℕ) (s : List ℕ) (left : ℕ) (marks : List ℕ) (tracks uids : ℕ)
    → fits UNUSED (field 40 (left * 40) s) ≡ false
    → used_good channels (used_in (field 40 (left * 40) s)) ≡ true
    → number 2 0 (field 40 (left * 40) s) < 65536
    → Counted channels s (suc left) marks tracks uids
    → Counted channels s left (marked marks (number 2 0 (field 40 (left * 40) s)))
    (tracks + (1 - bit marks (number 2 0 (field 40 (left * 40) s)))) (uids + 1)
unfolding entries_good entry_good entry_in indices different occurs used_in marked pick
one-used channels s left marks tracks uids u g below c =
    let e : List ℕ = field 40 (left * 40) s in
    let i : ℕ = number 2 0 e in
    let rest : List Entry = from (suc left) s in
    let cons : from left s ≡ used (used_in e) ∷ rest =
    from_cons left s c.within ∙ ap (λ (b : Bool). pick b unused (used (used_in e)) ∷ rest) u in
    let step : tracks + (1 - bit marks i) ≡ pick (occurs i (indices rest)) (different (indices rest)) (suc (different (indices rest))) =
    counted-once (occurs i (indices rest)) tracks (different (indices rest)) (bit marks i) c.different_so_far (c.bits i) in
    record {
      within = omega arith;
      few = c.few;
      good = ap (entries_good channels) cons ∙ pick_true (used_good channels (used_in e)) (entries_good channels rest) false g ∙ c.good;
      used_so_far = add-one uids ∙ ap suc c.used_so_far ∙ sym (ap (λ (es : List Entry). length (indices es)) cons);
      different_so_far = step ∙ sym (ap (λ (es : List Entry). different (indices es)) cons);
      bits = λ k.
          bit-marked marks i k (omega (arith, c.words))
          ∙ ap (pick (eqb i k) 1) (c.bits k)
          ∙ one_bit (eqb i k) (occurs k (indices rest))
          ∙ sym (ap (λ (es : List Entry). pick (occurs k (indices es)) 1 0) cons);
      words = length-set marks (i / 64) _ ∙ c.words;
      room = omega (arith, c.room);
      fewer = omega (arith, c.fewer);
    }

-- a used one that breaks a rule

fails-second : (a b : Bool) → b ≡ false → both a b ≡ false
unfolding pick
fails-second true b e = e
fails-second false b e = refl

-- one bad entry is enough
bad-before : (channels k m : ℕ) (s : List ℕ) → entries_good channels (entries_at m (drop (k * 40) s)) ≡ false
    → entries_good channels (entries_at (k + m) s) ≡ false
unfolding entries_at entries_good pick
bad-before channels zero m s h = ap (λ (x : ℕ). entries_good channels (entries_at x s)) (zero-add m) ∙ h
bad-before channels (suc k) m s h =
    let at : 40 + k * 40 ≡ suc k * 40 = omega arith in
    ap (λ (x : ℕ). entries_good channels (entries_at x s)) (suc-add k m)
    ∙ fails-second (entry_good channels (entry_in (take 40 s))) (entries_good channels (entries_at (k + m) (drop 40 s)))
    (bad-before channels k m (drop 40 s)
    (ap (λ (t : List ℕ). entries_good channels (entries_at m t)) (drop-drop (k * 40) 40 s ∙ ap (λ (x : ℕ). drop x s) at) ∙ h))

pub one-bad : (channels : ℕ) (s : List ℕ) (left : ℕ) (marks : List ℕ) (tracks uids t u : ℕ)
    → fits UNUSED (field 40 (left * 40) s) ≡ false
    → used_good channels (used_in (field 40 (left * 40) s)) ≡ false
    → Counted channels s (suc left) marks tracks uids
    → whole_good channels (whole_of t u s) ≡ false
unfolding whole_good whole_of entries_in entries_good entry_good entry_in from every
one-bad channels s left marks tracks uids t u n g c =
    let e : List ℕ = field 40 (left * 40) s in
    let all : left + (length s / 40 - left) ≡ length s / 40 = omega (arith, c.within) in
    fails-second (leb (length (entries_in s)) 1024) _
    (pick-false (entries_good channels (entries_in s)) _ false
    (ap (λ (m : ℕ). entries_good channels (entries_at m s)) (sym all)
    ∙ bad-before channels left (length s / 40 - left) s
    (ap (entries_good channels)
    (from_cons left s c.within ∙ ap (λ (b : Bool). pick b unused (used (used_in e)) ∷ from (suc left) s) n)
    ∙ pick-false (used_good channels (used_in e)) _ false g)))

-- too many
pub too_many : (channels : ℕ) (s : List ℕ) (t u : ℕ) → 1024 < length s / 40 → whole_good channels (whole_of t u s) ≡ false
unfolding whole_good whole_of every
too_many channels s t u h =
    pick-false (leb (length (entries_in s)) 1024) _ false (lt-leb (length (entries_in s)) 1024 (omega (arith, entries-count s)))

-- all of them
pub all-counted : (channels : ℕ) (s : List ℕ) (marks : List ℕ) (tracks uids t u : ℕ)
    → Counted channels s 0 marks tracks uids
    → whole_good channels (whole_of t u s) ≡ both (eqb u uids) (eqb t tracks)
unfolding whole_good whole_of every
all-counted channels s marks tracks uids t u c =
    pick_true (leb (length (entries_in s)) 1024) _ false (le-leb (length (entries_in s)) 1024 (omega (arith, c.few, entries-count s)))
    ∙ pick_true (entries_good channels (entries_in s)) _ false (ap (entries_good channels) (sym (from_all s)) ∙ c.good)
    ∙ ap₂ both
    (ap (eqb u) (sym (c.used_so_far ∙ ap (λ (es : List Entry). length (indices es)) (from_all s))))
    (itself (eqb t (different (indices (entries_in s))))
    ∙ ap (eqb t) (sym (c.different_so_far ∙ ap (λ (es : List Entry). different (indices es)) (from_all s))))
