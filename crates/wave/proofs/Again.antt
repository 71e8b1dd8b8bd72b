-- A listed file, read once more: the chunks from a place on, in the middle of a loop. The moves: the start, a chunk, and the
-- end; then the invariants of the loop that stores rows and of the one that compares them.
use mathlib.Core.Path.{◌≡◌, refl, sym, ap, ◌∙◌, subst}
use mathlib.Core.Bool.{true, false, not}
use mathlib.Core.List.{List, [], ◌∷◌, map-id, Memᴰ}
use Prim.Native.Nat.{ℕ, ◌+◌, ◌-◌, ◌%◌, ◌≤◌, ◌<◌}
use native.Mathlib.Omega.{arith}
use lib.ListN.{length}
use lib.Dec.{eqb}
use borrow.Author.Tests.{eq-eqb}
use Rattle.le.specs.Number.{number}
use Rattle.chunk.specs.declared.Entry.{Entry}
use Rattle.chunk.specs.declared.Header.{Header}
use Rattle.chunk.specs.declared.TrueSize.{TrueSize}
use Rattle.chunk.specs.declared.Refusal.TheVariants.{BadDs64}
use Rattle.chunk.specs.Refusals.{Ok}
use Rattle.chunk.specs.Fields.{ONES}
use Rattle.chunk.specs.Tables.{LIMIT}
use Rattle.chunk.specs.Walks.{Rule, entry_of, past, walk, field_size, own_size}
use Rattle.chunk.specs.Code.{HeaderAt}
use Rattle.chunk.proofs.Checks.{given-inj, check-given, pick_true, true-false}
use Rattle.chunk.proofs.Laid.{row-size, Laid, next, row_fits, walk-laid, laid-walk, Lies, laid-lies, Shown, relaid-as, own-given}
use Rattle.form.specs.declared.Form.{Form}
use Rattle.form.specs.declared.Form.TheVariants.{Riff, Rf64, Bw64}
use Rattle.form.specs.declared.Head.{Head}
use Rattle.form.specs.Forms.{is_wide}
use Rattle.truesize.specs.Sizes.{true_size, ones_size, stray_ds64, entries_of}
use Rattle.truesize.proofs.Sizes.{own_is, riff-own}
use Rattle.listing.specs.Listings.{headers}
use Rattle.listing.specs.Code.{rule}
use Rattle.wave.specs.Code.{Ended, EntryAt}

-- one chunk stands at a place
pub same-entry : {r : Rule} {s : List ℕ} {place : ℕ} {e f : Entry} → EntryAt r s place e → EntryAt r s place f → f ≡ e
same-entry {e = e} {f} a b =
    let z : row-size f ≡ row-size e = given-inj _ _ (sym b.sized ∙ a.sized) in
    λ i. record {
      name = (b.named ∙ sym a.named) i;
      place = (b.stands ∙ sym a.stands) i;
      size = (z i).bytes;
      source = (z i).source;
    }

-- of n chunks the i-th stands at a place, and these are left
pub record Again (r : Rule) (s : List ℕ) (n place i : ℕ) (left : List Entry) : Type 0 where
  pub start : 8 ≤ place
  pub even : place % 2 ≡ 0
  pub laid : Laid r s (place - 8) left
  pub count : i + length left ≡ n

pub again-start : (h : Head) (s : List ℕ) (n : ℕ) → Ended h s n → Again (rule h s) s n 20 0 (headers h s).rows
unfolding headers
again-start h s n e =
    record {
      start = omega arith;
      even = refl;
      laid = (walk-laid (rule h s) s LIMIT 12 e.end).laid;
      count = omega (arith, e.count);
    }

pub ended-few : (h : Head) (s : List ℕ) (n : ℕ) → Ended h s n → n ≤ LIMIT
unfolding headers
ended-few h s n e = omega (arith, e.count, (walk-laid (rule h s) s LIMIT 12 e.end).few)

-- the chunk at the place, and the rest after it
pub record Turn (r : Rule) (s : List ℕ) (n place i : ℕ) (left : List Entry) : Type 0 where
  pub entry : Entry
  pub rest : List Entry
  pub split : left ≡ entry ∷ rest
  pub at : EntryAt r s place entry
  pub ends : place + entry.size + entry.size % 2 ≤ length s
  pub holds : i + 1 ≤ n
  -- an entry that is made of its header and its size is the chunk
  pub made : (name : ℕ) (size : TrueSize) (x : Entry) → name ≡ number 4 (place - 8) s → size ≡ row-size entry
      → x ≡ entry_of place name size → x ≡ entry
  pub after : (to : ℕ) → to ≡ place + entry.size + entry.size % 2 + 8 → Again r s n to (i + 1) rest

pub again-turn : (r : Rule) (s : List ℕ) (n place i : ℕ) (left : List Entry) → Again r s n place i left → i < n
    → Turn r s n place i left
unfolding past
again-turn r s n place i left f h = go left refl f.laid f.count
  where
    go : (xs : List Entry) → left ≡ xs → Laid r s (place - 8) xs → i + length xs ≡ n → Turn r s n place i left
    go [] e l c = absurd (omega arith)
    go (x ∷ xs) e (next w l) c =
        let p : x.place ≡ place = omega (arith, w.place, f.start) in
        let q : place - 8 + 4 ≡ place - 4 = omega (arith, f.start) in
        record {
          entry = x;
          rest = xs;
          split = e;
          at = record {
            start = f.start;
            whole = omega (arith, row_fits w, f.start);
            stands = p;
            named = sym w.named;
            sized = rw q at (ap (λ (k : ℕ). r (place - 8) k (number 4 (place - 8 + 4) s)) w.named ∙ w.sized);
          };
          ends = omega (arith, w.ends, p);
          holds = omega arith;
          made = λ name size y nm sz is. is ∙ (λ j. entry_of (sym p j) ((nm ∙ w.named) j) (sz j));
          after = λ to at.
              let b : to - 8 ≡ past x = omega (arith, at, p) in
              record {
                start = omega (arith, at);
                even = omega (arith, at, f.even);
                laid = subst (λ (k : ℕ). Laid r s k xs) (sym b) l;
                count = omega arith;
              };
        }

-- it ends in the file, whichever way it is known
pub turn-ends : {r : Rule} {s : List ℕ} {n place i : ℕ} {left : List Entry} → Turn r s n place i left → (e : Entry)
    → EntryAt r s place e → place + e.size + e.size % 2 ≤ length s
turn-ends {s = s} {place = place} t e a = subst (λ (x : Entry). place + x.size + x.size % 2 ≤ length s) (sym (same-entry t.at a)) t.ends

-- no chunk is left
pub again-end : {r : Rule} {s : List ℕ} {n place i : ℕ} {left : List Entry} → Again r s n place i left → n ≤ i → left ≡ []
again-end {left = []} f h = refl
again-end {left = x ∷ xs} f h = absurd (omega (arith, f.count))

-- ---- a chunk, from its header

pub narrow-riff : (f : Form) → is_wide f ≡ false → f ≡ Riff
unfolding is_wide
narrow-riff Riff w = refl
narrow-riff Rf64 w = absurd (true-false true refl w)
narrow-riff Bw64 w = absurd (true-false true refl w)

module _ (h : Head) (s : List ℕ) (place : ℕ) (e : Entry) (a : EntryAt (rule h s) s place e) (x : Header) (k : HeaderAt place s x) where
  -- a field that is not all ones is the size
  pub entry-own : (x.field ≡ ONES → ⊥) → field_size x.field ≡ row-size e
  entry-own n = ap field_size k.field ∙ sym (own_is h (entries_of h s) _ _ _ _ a.sized (λ q. n (k.field ∙ q)))

  -- where it is all ones, ds64 knows the size
  pub entry-known : x.field ≡ ONES → ones_size h.form h.ds64 (entries_of h s) x.name ≡ Ok (row-size e)
  unfolding true_size
  entry-known q =
      ap (ones_size h.form h.ds64 (entries_of h s)) k.name
      ∙ sym (pick_true (eqb (number 4 (place - 4) s) ONES) _ _ (eq-eqb _ ONES (sym k.field ∙ q)))
      ∙ (check-given (not (stray_ds64 h.form (place - 8) (number 4 (place - 8) s))) BadDs64 _ _ a.sized).1

  -- in RIFF it never is
  pub entry-riff : is_wide h.form ≡ false → x.field ≡ ONES → ⊥
  entry-riff w q = riff-own h (entries_of h s) _ _ _ _ a.sized (narrow-riff h.form w) (sym k.field ∙ q)

  -- what is made of its header and its size is the chunk
  pub entry-made : (size : TrueSize) (y : Entry) → size ≡ row-size e → y ≡ entry_of place x.name size → EntryAt (rule h s) s place y
  entry-made size y z p = subst (EntryAt (rule h s) s place) (sym (p ∙ λ i. entry_of (sym a.stands i) ((k.name ∙ sym a.named) i) (z i))) a

-- ---- in RIFF every field is the size

-- so the 32-bit walk is the scan's walk
pub riff-headers : (h : Head) (s : List ℕ) → is_wide h.form ≡ false → (headers h s).end ≡ Ok tt
    → walk own_size s LIMIT 12 ≡ headers h s
unfolding headers
riff-headers h s w e =
    let l = walk-laid (true_size h (entries_of h s)) s LIMIT 12 e in
    laid-walk LIMIT (same l.laid (λ x m. own x (laid-lies l.laid m))) l.few
    ∙ sym (laid-walk LIMIT l.laid l.few)
  where
    same : {rows : List Entry} → Laid (true_size h (entries_of h s)) s 12 rows → ((x : Entry) → Memᴰ x rows → Shown own_size s x) → Laid own_size s 12 rows
    same {rows} l shown = subst (Laid own_size s 12) (map-id rows) (relaid-as (λ (x : Entry). x) own_size s (λ x. (refl, refl)) refl shown l)

    own : (x : Entry) → Lies (true_size h (entries_of h s)) s 12 x → Shown own_size s x
    own x y =
        let at = x.place - 8 in
        let field = number 4 (x.place - 4) s in
        let k = riff-own h (entries_of h s) at x.name field (row-size x) y.sized (narrow-riff h.form w) in
        let t = own_is h (entries_of h s) at x.name field (row-size x) y.sized k in
        record { named = y.named; sized = own-given at x.name field k ∙ ap Ok (sym t) }
