-- The table after an upgrade: the first chunk renamed, data's source another, and the chunks ahead of a name. Whatever is
-- neither JUNK nor ds64 is counted and found as it was.
-- Assumes nothing.
use mathlib.Core.Path.{◌≡◌, refl, sym, ◌∙◌, ap, ap₂, subst}
use mathlib.Core.Bool.{true}
use mathlib.Core.Logic.{◌⊎◌, inl, inr}
use mathlib.Core.List.Memᴰ
use mathlib.Core.List.{List, [], ◌∷◌, ◌++◌, map, Memᴰ}
use Prim.Native.Nat.{ℕ, ◌≤◌}
use native.Mathlib.Omega.{arith}
use lib.Dec.{eqb}
use borrow.Author.Tests.{eq-eqb, ne_eqb}
use Rattle.chunk.specs.declared.Entry.{Entry}
use Rattle.chunk.specs.declared.Source.{Source}
use Rattle.chunk.specs.declared.Source.TheVariants.{DataSize}
use Rattle.chunk.specs.Names.{DS64, JUNK, FMT, FACT, DATA, BEXT, CHNA}
use Rattle.chunk.specs.Tables.{count, find}
use Rattle.chunk.proofs.Checks.{pick_true, pick-false}
use Rattle.chunk.proofs.Finds.{First, hit, miss, first, finds-as}
use Rattle.form.specs.declared.Head.{Head}
use Rattle.form.specs.Forms.{name_of, is_wide, ds64_at}
use Rattle.listing.proofs.Checked.{Chunked}
use Rattle.upgrade.specs.declared.Target.{Target}
use Rattle.upgrade.specs.declared.Target.TheVariants as target
use Rattle.upgrade.specs.Upgrades.{target_name}
use Rattle.upgrade.specs.Demand3.{source_now, marked, ahead_of, target_form}
use Rattle.upgrade.proofs.Takes.{skipped}

-- ---- the target's form

pub target-named : (t : Target) → target_name t ≡ name_of (target_form t)
unfolding target_name name_of target_form
target-named target.Rf64 = refl
target-named target.Bw64 = refl

pub target-wide : (t : Target) → is_wide (target_form t) ≡ true
unfolding is_wide target_form
target-wide target.Rf64 = refl
target-wide target.Bw64 = refl

abbrev pub head_in : Target → List ℕ → Head
head_in t u = record { form = target_form t; ds64 = ds64_at u }

-- ---- the first chunk renamed

abbrev pub ds64_row : Entry → Entry
ds64_row j = record { name = DS64; place = j.place; size = j.size; source = j.source }

-- a name that is neither JUNK nor ds64 is counted and found as it was
renamed-same : (name : ℕ) (j : Entry) (rest : List Entry) → j.name ≡ JUNK → (JUNK ≡ name → ⊥) → (DS64 ≡ name → ⊥)
    → (count name (ds64_row j ∷ rest) ≡ count name (j ∷ rest)) × (find name (ds64_row j ∷ rest) ≡ find name (j ∷ rest))
renamed-same name j rest e p q =
    let a = skipped name (ds64_row j) rest q in
    let b = skipped name j rest (λ r. p (sym e ∙ r)) in
    (a.0 ∙ sym b.0, a.1 ∙ sym b.1)

-- ---- where the sizes come from now

pub now-data : (e : Entry) → e.name ≡ DATA → source_now e ≡ DataSize
unfolding source_now
now-data e p = pick_true _ _ _ (eq-eqb e.name DATA p)

pub now-other : (e : Entry) → (e.name ≡ DATA → ⊥) → source_now e ≡ e.source
unfolding source_now
now-other e n = pick-false _ _ _ (ne_eqb e.name DATA n)

-- every name is counted as it was, and found with its place and size
marked-same : (name : ℕ) (rows : List Entry) → (count name (map marked rows) ≡ count name rows) × (find name (map marked rows) ≡ marked (find name rows))
unfolding find
marked-same name rows =
    finds-as marked (λ e. refl) name
    (ap (λ (x : Source). record { name = 0; place = 0; size = 0; source = x }) (now-other _ (λ p. omega (arith, p)))) rows

-- ---- the new table

abbrev pub new_rows : Entry → List Entry → List Entry
new_rows j rest = map marked (ds64_row j ∷ rest)

-- a name that is neither JUNK nor ds64 is counted as it was, and found with its place and size
pub new-same : (name : ℕ) (j : Entry) (rest : List Entry) → j.name ≡ JUNK → (JUNK ≡ name → ⊥) → (DS64 ≡ name → ⊥)
    → (count name (new_rows j rest) ≡ count name (j ∷ rest)) × (find name (new_rows j rest) ≡ marked (find name (j ∷ rest)))
new-same name j rest e p q =
    let a = marked-same name (ds64_row j ∷ rest) in
    let b = renamed-same name j rest e p q in
    (a.0 ∙ b.0, a.1 ∙ ap marked b.1)

pub new-chunked : (j : Entry) (rest : List Entry) → j.name ≡ JUNK → Chunked (j ∷ rest) → Chunked (new_rows j rest)
new-chunked j rest e c =
    let fmt = new-same FMT j rest e (λ p. omega arith) (λ p. omega arith) in
    let audio = new-same DATA j rest e (λ p. omega arith) (λ p. omega arith) in
    let fact = new-same FACT j rest e (λ p. omega arith) (λ p. omega arith) in
    let bext = new-same BEXT j rest e (λ p. omega arith) (λ p. omega arith) in
    let chna = new-same CHNA j rest e (λ p. omega arith) (λ p. omega arith) in
    record {
      one_fmt = fmt.0 ∙ c.one_fmt;
      one_data = audio.0 ∙ c.one_data;
      fmt_first = rw (fmt.1, audio.1) c.fmt_first;
      bext = rw bext.0 c.bext;
      chna = rw chna.0 c.chna;
      fact = rw fact.0 c.fact;
      fact_holds = rw (fact.0, fact.1) c.fact_holds;
    }

-- ---- the chunks ahead of the first of a name

pub record Split (name : ℕ) (rows : List Entry) : Type 0 where
  pub behind : List Entry
  pub is : rows ≡ ahead_of name rows ++ find name rows ∷ behind
  pub others : (e : Entry) → Memᴰ e (ahead_of name rows) → Memᴰ e rows × (e.name ≡ name → ⊥)

pub split : (name : ℕ) (rows : List Entry) → 1 ≤ count name rows → Split name rows
unfolding ahead_of count
split name [] c = absurd (omega arith)
split name (x ∷ xs) c = go (split name xs) (first name x xs)
  where
    go : (1 ≤ count name xs → Split name xs) → First name x xs → Split name (x ∷ xs)
    go below (hit p n f) =
        let a : ahead_of name (x ∷ xs) ≡ [] = pick_true (eqb x.name name) _ _ (eq-eqb x.name name p) in
        record {
          behind = xs;
          is = sym (ap₂ (λ (l : List Entry) (y : Entry). l ++ y ∷ xs) a f);
          others = λ e m. absurd (Memᴰ.not-nil (subst (Memᴰ e) a m));
        }
    go below (miss p n f) =
        let a : ahead_of name (x ∷ xs) ≡ x ∷ ahead_of name xs = pick-false (eqb x.name name) _ _ (ne_eqb x.name name p) in
        let b = below (omega arith) in
        record {
          behind = b.behind;
          is = ap (λ (l : List Entry). x ∷ l) b.is ∙ sym (ap₂ (λ (l : List Entry) (y : Entry). l ++ y ∷ b.behind) a f);
          others = λ e m. member e (b.others e) (Memᴰ.cases_cons (subst (Memᴰ e) a m));
        }
      where
        member : (e : Entry) → (Memᴰ e (ahead_of name xs) → Memᴰ e xs × (e.name ≡ name → ⊥))
            → (e ≡ x) ⊎ Memᴰ e (ahead_of name xs) → Memᴰ e (x ∷ xs) × (e.name ≡ name → ⊥)
        member e g (inl q) = (Memᴰ.head q, λ r. p (sym (ap (λ (y : Entry). y.name) q) ∙ r))
        member e g (inr m) = (Memᴰ.tail (g m).0, (g m).1)
