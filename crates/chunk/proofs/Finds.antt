-- Chunks found by name: what is found stands in the table under that name, and where the name is there but once it is the
-- only one. By induction on the table.
-- Assumes nothing.
use mathlib.Core.Path.{◌≡◌, refl, sym, ◌∙◌, ap}
use mathlib.Core.Bool.{Bool, true, false}
use mathlib.Core.Logic.{◌⊎◌, inl, inr}
use mathlib.Core.List.Memᴰ
use mathlib.Core.List.{List, [], ◌∷◌, map, Memᴰ}
use Prim.Native.Nat.{ℕ, suc, ◌≤◌}
use native.Mathlib.Omega.{arith}
use lib.Dec.{eqb}
use borrow.Author.Tests.{eqb-true, eqb-false}
use Rattle.chunk.specs.declared.Entry.{Entry}
use Rattle.chunk.specs.Tables.{count, find}
use Rattle.chunk.proofs.Checks.{pick_true, pick-false}

-- the chunk at the head has the name, or has another
pub data First (name : ℕ) (e : Entry) (es : List Entry) : Type 0 where
  hit : e.name ≡ name → count name (e ∷ es) ≡ suc (count name es) → find name (e ∷ es) ≡ e → First name e es
  miss : (e.name ≡ name → ⊥) → count name (e ∷ es) ≡ count name es → find name (e ∷ es) ≡ find name es → First name e es

pub first : (name : ℕ) (e : Entry) (es : List Entry) → First name e es
unfolding count find
first name e es = go (eqb e.name name) refl
  where
    go : (b : Bool) → eqb e.name name ≡ b → First name e es
    go true h = hit (eqb-true _ _ h) (pick_true _ _ _ h) (pick_true _ _ _ h)
    go false h = miss (eqb-false _ _ h) (pick-false _ _ _ h) (pick-false _ _ _ h)

pub record Finds (name : ℕ) (rows : List Entry) : Type 0 where
  pub mem : Memᴰ (find name rows) rows
  pub named : (find name rows).name ≡ name

none : (name : ℕ) → count name [] ≡ 0
unfolding count
none name = refl

pub found : (name : ℕ) (rows : List Entry) → 1 ≤ count name rows → Finds name rows
found name [] h = absurd (omega (arith, none name))
found name (e ∷ es) h = go (found name es) (first name e es)
  where
    go : (1 ≤ count name es → Finds name es) → First name e es → Finds name (e ∷ es)
    go below (hit p c f) = record { mem = Memᴰ.head f; named = ap (λ (x : Entry). x.name) f ∙ p }
    go below (miss p c f) =
        let b = below (omega arith) in
        record { mem = Memᴰ.tail (Memᴰ.cast f b.mem); named = ap (λ (x : Entry). x.name) f ∙ b.named }

-- a chunk of a name is counted
pub counted : (name : ℕ) (rows : List Entry) (e : Entry) → Memᴰ e rows → e.name ≡ name → 1 ≤ count name rows
counted name [] e m h = absurd (Memᴰ.not-nil m)
counted name (x ∷ xs) e m h = go (λ (k : Memᴰ e xs). counted name xs e k h) (Memᴰ.cases_cons m) (first name x xs)
  where
    go : (Memᴰ e xs → 1 ≤ count name xs) → (e ≡ x) ⊎ Memᴰ e xs → First name x xs → 1 ≤ count name (x ∷ xs)
    go below k (hit p c f) = omega arith
    go below (inl q) (miss p c f) = absurd (p (sym (ap (λ (y : Entry). y.name) q) ∙ h))
    go below (inr k) (miss p c f) = omega (arith, below k)

-- rows that are now others of the same names, of which the empty entry stays, are counted and found as before
pub finds-as : (g : Entry → Entry) → ((e : Entry) → (g e).name ≡ e.name) → (name : ℕ) → g (find name []) ≡ find name [] → (rows : List Entry)
    → (count name (map g rows) ≡ count name rows) × (find name (map g rows) ≡ g (find name rows))
finds-as g same name none [] = (refl, sym none)
finds-as g same name none (x ∷ xs) = go (finds-as g same name none xs) (first name x xs) (first name (g x) (map g xs))
  where
    go : (count name (map g xs) ≡ count name xs) × (find name (map g xs) ≡ g (find name xs)) → First name x xs → First name (g x) (map g xs)
        → (count name (g x ∷ map g xs) ≡ count name (x ∷ xs)) × (find name (g x ∷ map g xs) ≡ g (find name (x ∷ xs)))
    go b (hit p c f) (hit q d h) = (d ∙ ap suc b.0 ∙ sym c, h ∙ ap g (sym f))
    go b (hit p c f) (miss q d h) = absurd (q (same x ∙ p))
    go b (miss p c f) (hit q d h) = absurd (p (sym (same x) ∙ q))
    go b (miss p c f) (miss q d h) = (d ∙ b.0 ∙ sym c, h ∙ b.1 ∙ ap g (sym f))

-- the only chunk of a name is the one found
pub only : (name : ℕ) (rows : List Entry) (e : Entry) → count name rows ≤ 1 → Memᴰ e rows → e.name ≡ name → e ≡ find name rows
only name [] e c m h = absurd (Memᴰ.not-nil m)
only name (x ∷ xs) e c m h =
    go (λ (d : count name xs ≤ 1) (k : Memᴰ e xs). only name xs e d k h) (Memᴰ.cases_cons m) (first name x xs)
  where
    go : (count name xs ≤ 1 → Memᴰ e xs → e ≡ find name xs) → (e ≡ x) ⊎ Memᴰ e xs → First name x xs
        → e ≡ find name (x ∷ xs)
    go below (inl q) (hit p d f) = q ∙ sym f
    go below (inr k) (hit p d f) = absurd (omega (arith, counted name xs e k h))
    go below (inl q) (miss p d f) = absurd (p (sym (ap (λ (y : Entry). y.name) q) ∙ h))
    go below (inr k) (miss p d f) = below (omega arith) k ∙ sym f
