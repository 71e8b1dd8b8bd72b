-- The search for the first entry of a name. Where no entry below a position has the name, what the entries from there on say
-- is what they all say: so the one there gives the size, or none is left.
-- Assumes nothing.
use mathlib.Core.Path.{◌≡◌, refl, sym, ◌∙◌, ap}
use mathlib.Core.Bool.{Bool, true, false}
use mathlib.Core.List.{List}
use Prim.Native.Nat.{ℕ, zero, suc, ◌+◌, ◌-◌, ◌≤◌, ◌<◌}
use native.Mathlib.Omega.{arith}
use native.Mathlib.Numerals.{unary_clauses}
use lib.ListN.{drop}
use lib.Dec.{eqb, ltb}
use borrow.Author.Tests.{eqb-true, eqb-false, ltb-true, ltb-false}
use Rattle.le.specs.Number.{number}
use Rattle.le.specs.Choice.{pick}
use Rattle.chunk.specs.declared.TrueSize.{TrueSize}
use Rattle.chunk.specs.declared.Refusal.TheVariants.{UnknownSize}
use Rattle.chunk.specs.Refusals.{Answer, Err, Ok}
use Rattle.chunk.proofs.Checks.{given-inj, refused-given}
use Rattle.form.specs.Forms.{LEAST, ENTRY}
use Rattle.truesize.specs.Sizes.{entries_in, size_at, entry_size}
use Rattle.truesize.specs.Code.{entry_place, entry_name, NoneBelow}
use Rattle.truesize.proofs.Ds64Entries.{entry_here, entry-later, entry-none}

-- what as many entries say of a name
abbrev pub sought : List ℕ → ℕ → ℕ → Answer TrueSize
sought s count name = entry_size 0 name (entries_in count (drop (20 + LEAST) s))

-- what the entries from a position on say
pub searched : (s : List ℕ) (count name i : ℕ) → NoneBelow s name i
    → entry_size i name (entries_in (count - i) (drop (entry_place i) s)) ≡ sought s count name
searched s count name zero b = simp unary_clauses refl
searched s count name (suc i) b =
    let later = entry-later i name (count - i) (count - suc i) (entry_place i) s (omega arith) (b.none i (omega arith)) in
    let e : i + 1 ≡ suc i = omega arith in
    let f : entry_place i + ENTRY ≡ entry_place (suc i) = omega arith in
    sym (rw (e, f) at later) ∙ searched s count name i (record { none = λ j h. b.none j (omega arith) })

-- the moves: the start, an entry of another name, an entry of the name, and no entry left
pub search-start : (s : List ℕ) (name : ℕ) → NoneBelow s name 0
search-start s name = record { none = λ j h. absurd (omega arith) }

-- an entry of another name, or none
pub search-next : {s : List ℕ} {name i : ℕ} → NoneBelow s name i → (entry_name s i ≡ name → ⊥) → NoneBelow s name (i + 1)
search-next {s} {name} {i} b n = record { none = λ j l. neither j l (ltb j i) refl }
  where
    neither : (j : ℕ) → j < i + 1 → (c : Bool) → ltb j i ≡ c → entry_name s j ≡ name → ⊥
    neither j k true l q = b.none j (ltb-true _ _ l) q
    neither j k false l q = n (let w : i ≡ j = omega (arith, k, ltb-false j i l) in ap (entry_name s) w ∙ q)

module _ {s : List ℕ} {name i : ℕ} (count : ℕ) (b : NoneBelow s name i) where
  -- the first entry of the name
  pub search-here : i < count → entry_name s i ≡ name → sought s count name ≡ Ok (size_at i (number 8 (entry_place i + 4) s))
  search-here h e = sym (searched s count name i b) ∙ entry_here i name (count - i) (entry_place i) s (omega arith) e

  -- no entry is left
  pub search-none : count ≤ i → sought s count name ≡ Err UnknownSize
  search-none h = sym (searched s count name i b) ∙ entry-none i name (count - i) _ (omega arith)

  -- where an entry is known to have the name, the search is not past it
  pub search-more : (t : TrueSize) → sought s count name ≡ Ok t → i < count
  search-more t e = go (ltb i count) refl
    where
      go : (c : Bool) → ltb i count ≡ c → i < count
      go true h = ltb-true _ _ h
      go false h = absurd (refused-given UnknownSize t (sym (search-none (ltb-false _ _ h)) ∙ e))

pub none-less : {s : List ℕ} {name i : ℕ} (n : ℕ) → NoneBelow s name i → n ≤ i → NoneBelow s name n
none-less n b h = record { none = λ j k. b.none j (omega (arith, h, k)) }

-- the last entry there can be has the name
pub search-last : {s : List ℕ} {name i : ℕ} (count : ℕ) (b : NoneBelow s name i) (t : TrueSize) → sought s count name ≡ Ok t → count ≤ i + 1
    → t ≡ size_at i (number 8 (entry_place i + 4) s)
search-last {s} {name} {i} count b t e h = go (eqb (entry_name s i) name) refl
  where
    more : i < count
    more = search-more count b t e

    go : (c : Bool) → eqb (entry_name s i) name ≡ c → t ≡ size_at i (number 8 (entry_place i + 4) s)
    go true k = given-inj _ _ (sym e ∙ search-here count b more (eqb-true _ _ k))
    go false k =
        absurd (refused-given UnknownSize t (sym (search-none {i = i + 1} count (search-next b (eqb-false _ _ k)) h) ∙ e))

-- what stands behind the entry of the name says nothing
pub more-entries : (p name count n : ℕ) (s : List ℕ) (t : TrueSize) → count ≤ n
    → entry_size p name (entries_in count s) ≡ Ok t → entry_size p name (entries_in n s) ≡ Ok t
unfolding entries_in entry_size pick
more-entries p name zero n s t h e = absurd (refused-given UnknownSize t e)
more-entries p name (suc count) zero s t h e = absurd (omega arith)
more-entries p name (suc count) (suc n) s t h e =
    go (eqb (number 4 0 s) name) (more-entries (p + 1) name count n (drop ENTRY s) t (omega arith)) e
  where
    go : (c : Bool) → (entry_size (p + 1) name (entries_in count (drop ENTRY s)) ≡ Ok t → entry_size (p + 1) name (entries_in n (drop ENTRY s)) ≡ Ok t)
        → pick c (Ok (size_at p (number 8 4 s))) (entry_size (p + 1) name (entries_in count (drop ENTRY s))) ≡ Ok t
        → pick c (Ok (size_at p (number 8 4 s))) (entry_size (p + 1) name (entries_in n (drop ENTRY s))) ≡ Ok t
    go true f x = x
    go false f x = f x
