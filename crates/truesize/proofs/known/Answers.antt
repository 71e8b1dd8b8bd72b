-- `truesize::known` meets its contract: the size is known, so the search is never past the last entry: what is found is it, and
-- where the first 15 have another name it is the 16th.
use mathlib.Core.Path.{◌≡◌, sym, ◌∙◌, ap}
use mathlib.Core.List.{List}
use Prim.Native.Nat.{ℕ, ◌+◌, ◌*◌, ◌≤◌}
use native.Mathlib.Omega.{arith}
use lib.ListN.{length}
use Rattle.chunk.specs.Refusals.{Ok}
use Rattle.chunk.specs.Names.{DATA}
use Rattle.form.specs.declared.Head.{Head}
use Rattle.form.specs.Forms.{ENTRIES, LEAST, ENTRY}
use Rattle.truesize.specs.Sizes.{entries_of}
use Rattle.truesize.specs.Code.{Knows}
use Rattle.truesize.proofs.Search.{sought, search-more, search-last, more-entries}
use Rattle.truesize.proofs.Sizes.{given-wide, ones-wide, known-data, known-other}
use Rattle.truesize.proofs.known.Goals as goal

-- the entries give the size
record Sought (h : Head) (s : List ℕ) (name : ℕ) (k : Knows h s name) : Type 0 where
  few : h.ds64.count ≤ ENTRIES
  inside : 20 + LEAST + ENTRY * h.ds64.count ≤ length s
  is : sought s h.ds64.count name ≡ Ok k.size

all : {h : Head} {s : List ℕ} {name : ℕ} (k : Knows h s name) → (name ≡ DATA → ⊥) → Sought h s name k
unfolding entries_of
all {h} {s} {name} k n =
    let w = given-wide h.form _ _ name _ k.is in
    record {
      few = k.fit.few w;
      inside = k.fit.inside w;
      is = sym (known-other _ _ name n) ∙ sym (ones-wide h.form _ _ name w) ∙ k.is;
    }

pub returns-then-name-eq-DATA : goal.returns-then-name-eq-DATA
returns-then-name-eq-DATA c =
    let k = c.requires in
    record {
      is = ones-wide _ _ _ _ (given-wide _ _ _ _ _ k.is) ∙ known-data _ _ _ c.if-name-eq-DATA.true ∙ ap Ok (sym c.data_size.ensures);
    }

pub first_size-requires-clause-inside : goal.first_size-requires-clause-inside
first_size-requires-clause-inside c =
    let f : Sought _ _ _ c.requires = all c.requires c.if-name-eq-DATA.false in
    record { inside = λ i h none. let m = search-more _ none _ f.is in omega (arith, f.inside, m) }

pub returns-in-Ok : goal.returns-in-Ok
returns-in-Ok c =
    let f : Sought _ _ _ c.requires = all c.requires c.if-name-eq-DATA.false in
    let e = more-entries 0 _ _ 16 _ _ f.few f.is in
    let g = more-entries 0 _ 15 16 _ _ (omega arith) (sym c.first_size.ensures.is ∙ c.in-Ok.is) in
    record { is = c.requires.is ∙ sym e ∙ g }

pub size_at-requires : goal.size_at-requires
size_at-requires c =
    let f : Sought _ _ _ c.requires = all c.requires c.if-name-eq-DATA.false in
    let none = rw c.in-Err.is at c.first_size.ensures.none in
    let m = search-more _ none _ f.is in
    omega (arith, f.inside, m)

pub returns-in-Err : goal.returns-in-Err
returns-in-Err c =
    let f : Sought _ _ _ c.requires = all c.requires c.if-name-eq-DATA.false in
    let none = rw c.in-Err.is at c.first_size.ensures.none in
    let e = search-last _ none _ f.is f.few in
    record { is = c.requires.is ∙ grind (arith, e, c.size_at.ensures) }
