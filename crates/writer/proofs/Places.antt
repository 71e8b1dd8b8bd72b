-- Where the parts of a written file stand: from a place on, a file is a number, or a chunk, and what follows it; so the
-- rows of its table are laid in it, by any rule of sizes that knows them.
-- Assumes nothing.
use mathlib.Core.Path.{◌≡◌, refl, sym, ap, ◌∙◌, subst}
use mathlib.Core.Bool.{Bool, true, false}
use mathlib.Core.List.{List, [], ◌∷◌, ◌++◌, append_assoc}
use Prim.Native.Nat.{ℕ, ◌+◌, ◌%◌, ◌^◌, ◌≤◌, ◌<◌}
use native.Mathlib.Nat.{add-zero}
use native.Mathlib.Omega.{arith}
use lib.ListN.{length, drop, length-append, length-drop}
use lib.Dec.{eqb}
use borrow.Author.Tests.{eq-eqb, ne_eqb, eqb-true, eqb-false}
use Rattle.le.specs.Number.{bytes, field, number}
use Rattle.le.proofs.Laws.{bytes-length, number_at, drop_past, field_at}
use Rattle.chunk.specs.declared.Entry.{Entry}
use Rattle.chunk.specs.declared.Source.{Source}
use Rattle.chunk.specs.declared.Source.TheVariants.{Own}
use Rattle.chunk.specs.Refusals.{Ok}
use Rattle.chunk.specs.Walks.{Rule, field_size, past}
use Rattle.chunk.proofs.Checks.{pick_true, pick-false}
use Rattle.chunk.proofs.Laid.{Row, Laid, next}
use Rattle.file_parts.specs.Parts.{pad_of, chunk_with, chunk_bytes, optional, chunk_size, optional_size}
use Rattle.writer.specs.WayBack.{entry, row_for}
use Rattle.file_parts.proofs.Lengths.{chunk-length, optional-some, optional-length, size_none, size-some}

-- ---- a chunk

pub record Stands (s : List ℕ) (at name own : ℕ) (p rest : List ℕ) : Type 0 where
  pub named : number 4 at s ≡ name
  pub owned : number 4 (at + 4) s ≡ own
  pub payload : drop (at + 8) s ≡ p ++ (pad_of (length p) ++ rest)
  pub holds : field (length p) (at + 8) s ≡ p
  pub ends : at + chunk_size (length p) ≤ length s
  pub next : drop (at + chunk_size (length p)) s ≡ rest

pub stands : (s : List ℕ) (at name own : ℕ) (p rest : List ℕ) → name < 256 ^ 4 → own < 256 ^ 4
    → drop at s ≡ chunk_with name own p ++ rest → Stands s at name own p rest
unfolding chunk_with chunk_size
stands s at name own p rest n o e =
    let tail : List ℕ = p ++ (pad_of (length p) ++ rest) in
    let flat : chunk_with name own p ++ rest ≡ bytes 4 name ++ (bytes 4 own ++ tail) = simp append_assoc in
    let e₀ : drop at s ≡ bytes 4 name ++ (bytes 4 own ++ tail) = e ∙ flat in
    let e₄ : drop (at + 4) s ≡ bytes 4 own ++ tail = drop_past 4 at s (bytes 4 name) (bytes 4 own ++ tail) (bytes-length 4 name) e₀ in
    let eight : at + 8 ≡ at + 4 + 4 = omega arith in
    let e₈ : drop (at + 8) s ≡ tail =
    ap (λ (k : ℕ). drop k s) eight ∙ drop_past 4 (at + 4) s (bytes 4 own) tail (bytes-length 4 own) e₄ in
    record {
      named = number_at 4 at name s (bytes 4 own ++ tail) n e₀;
      owned = number_at 4 (at + 4) own s tail o e₄;
      payload = e₈;
      holds = field_at (length p) (at + 8) s p (pad_of (length p) ++ rest) refl e₈;
      ends = omega (arith, length-drop at s, ap length e, length-append (chunk_with name own p) rest, chunk-length name own p);
      next = drop_past (chunk_size (length p)) at s (chunk_with name own p) rest (chunk-length name own p) e;
    }

row_of : {rule : Rule} {s : List ℕ} {at name own n : ℕ} {x : Source} {p rest : List ℕ} → Stands s at name own p rest → length p ≡ n
    → rule at name own ≡ Ok (record { bytes = n; source = x }) → Row rule s at (entry x name (at + 8) n)
unfolding entry past chunk_size
row_of {rule} {s} {at} {name} {own} {n} {x} {p} {rest} w q h =
    record {
      place = refl;
      named = w.named;
      sized = ap (rule at name) w.owned ∙ h;
      ends = subst (λ (k : ℕ). at + 8 + k + k % 2 ≤ length s) q (omega (arith, w.ends));
    }

past-entry : (x : Source) (name at n : ℕ) → past (entry x name (at + 8) n) ≡ at + chunk_size n
unfolding entry past chunk_size
past-entry x name at n = omega arith

-- a chunk of this size, and the rows after it
pub laid_next : (rule : Rule) (s : List ℕ) (at name own : ℕ) (p rest : List ℕ) (rows : List Entry) (x : Source) (place n : ℕ)
    → Stands s at name own p rest → place ≡ at + 8 → length p ≡ n → rule at name own ≡ Ok (record { bytes = n; source = x })
    → Laid rule s (at + chunk_size n) rows → Laid rule s at (entry x name place n ∷ rows)
laid_next rule s at name own p rest rows x place n w e q h l =
    subst (λ (k : ℕ). Laid rule s at (entry x name k n ∷ rows)) (sym e)
    (next (row_of w q h) (subst (λ (k : ℕ). Laid rule s k rows) (sym (past-entry x name at n)) l))

-- ---- a chunk that may be absent

row-none : (name at n : ℕ) → n ≡ 0 → row_for name at n ≡ []
unfolding row_for
row-none name at n e = pick_true (eqb n 0) _ _ (eq-eqb n 0 e)

row-some : (name at n : ℕ) → (n ≡ 0 → ⊥) → row_for name at n ≡ entry Own name at n ∷ []
unfolding row_for
row-some name at n h = pick-false (eqb n 0) _ _ (ne_eqb n 0 h)

pub optional-next : (s : List ℕ) (at name : ℕ) (p rest : List ℕ) → drop at s ≡ optional name p ++ rest
    → drop (at + optional_size (length p)) s ≡ rest
optional-next s at name p rest e = drop_past (optional_size (length p)) at s (optional name p) rest (optional-length name p) e

-- one that is there stands
pub optional-stands : (s : List ℕ) (at name : ℕ) (p rest : List ℕ) → name < 256 ^ 4 → length p < 256 ^ 4 → (length p ≡ 0 → ⊥)
    → drop at s ≡ optional name p ++ rest → Stands s at name (length p) p rest
unfolding chunk_bytes
optional-stands s at name p rest n o h e =
    stands s at name (length p) p rest n o (e ∙ ap (λ (l : List ℕ). l ++ rest) (optional-some name p h))

pub laid-optional : (rule : Rule) (s : List ℕ) (at name : ℕ) (p rest : List ℕ) (rows : List Entry) (place n : ℕ)
    → name < 256 ^ 4 → length p < 256 ^ 4 → drop at s ≡ optional name p ++ rest → place ≡ at + 8 → length p ≡ n
    → rule at name n ≡ Ok (field_size n) → Laid rule s (at + optional_size n) rows → Laid rule s at (row_for name place n ++ rows)
laid-optional rule s at name p rest rows place n x o e f q k l = go (eqb n 0) refl
  where
    go : (b : Bool) → eqb n 0 ≡ b → Laid rule s at (row_for name place n ++ rows)
    go true t =
        let z : n ≡ 0 = eqb-true n 0 t in
        let same : at + optional_size n ≡ at = ap (λ (m : ℕ). at + m) (size_none n z) ∙ add-zero at in
        rw (row-none name place n z) (subst (λ (m : ℕ). Laid rule s m rows) same l)
    go false t =
        let z : n ≡ 0 → ⊥ = eqb-false n 0 t in
        rw (row-some name place n z)
        (laid_next rule s at name (length p) p rest rows Own place n
        (optional-stands s at name p rest x o (λ (u : length p ≡ 0). z (sym q ∙ u)) e) f q (ap (rule at name) q ∙ k)
        (subst (λ (m : ℕ). Laid rule s (at + m) rows) (size-some n z) l))
