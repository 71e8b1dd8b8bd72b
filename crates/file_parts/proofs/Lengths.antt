-- How long the parts of a file are: a chunk has header, payload and pad, and the opening 48 bytes.
-- Assumes nothing.
use mathlib.Core.Path.{◌≡◌, refl, sym, ap, ◌∙◌}
use mathlib.Core.Bool.{Bool, true, false}
use mathlib.Core.List.{List, [], ◌++◌}
use Prim.Native.Nat.{ℕ, ◌+◌, ◌%◌, ◌≤◌}
use native.Mathlib.Omega.{arith}
use lib.ListN.{length, replicate, length-append, length-replicate}
use lib.Dec.{eqb}
use borrow.Author.Tests.{eq-eqb, ne_eqb, eqb-true, eqb-false}
use Rattle.le.specs.Number.{bytes}
use Rattle.le.proofs.Laws.{bytes-length}
use Rattle.chunk.proofs.Checks.{picked, pick_true, pick-false}
use Rattle.form.specs.declared.Form.{Form}
use Rattle.form.specs.declared.Form.TheVariants.{Riff, Rf64, Bw64}
use Rattle.form.specs.Forms.{name_of}
use Rattle.file_parts.specs.Parts.{pad_of, chunk_with, chunk_bytes, optional, own_field, first_chunk, opening_bytes, chunk_size, optional_size}

pub chunk-length : (name own : ℕ) (p : List ℕ) → length (chunk_with name own p) ≡ chunk_size (length p)
unfolding chunk_with chunk_size pad_of
chunk-length name own p =
    omega
    (arith, length-append (bytes 4 name) (bytes 4 own ++ (p ++ replicate (length p % 2) 0)), length-append (bytes 4 own) (p ++ replicate (length p % 2) 0), length-append p (replicate (length p % 2) 0), bytes-length 4 name, bytes-length 4 own, length-replicate {A = ℕ} (length p % 2) 0)

pub optional-none : (name : ℕ) (p : List ℕ) → length p ≡ 0 → optional name p ≡ []
unfolding optional
optional-none name p e = pick_true (eqb (length p) 0) _ _ (eq-eqb (length p) 0 e)

pub optional-some : (name : ℕ) (p : List ℕ) → (length p ≡ 0 → ⊥) → optional name p ≡ chunk_bytes name p
unfolding optional
optional-some name p h = pick-false (eqb (length p) 0) _ _ (ne_eqb (length p) 0 h)

pub size_none : (n : ℕ) → n ≡ 0 → optional_size n ≡ 0
unfolding optional_size
size_none n e = pick_true (eqb n 0) _ _ (eq-eqb n 0 e)

pub size-some : (n : ℕ) → (n ≡ 0 → ⊥) → optional_size n ≡ chunk_size n
unfolding optional_size
size-some n h = pick-false (eqb n 0) _ _ (ne_eqb n 0 h)

pub size-most : (n : ℕ) → optional_size n ≤ 9 + n
unfolding optional_size chunk_size
size-most n = picked (λ (k : ℕ). k ≤ 9 + n) (eqb n 0) _ _ (λ _. omega arith) (λ _. omega arith)

pub optional-length : (name : ℕ) (p : List ℕ) → length (optional name p) ≡ optional_size (length p)
unfolding chunk_bytes
optional-length name p = go (eqb (length p) 0) refl
  where
    go : (b : Bool) → eqb (length p) 0 ≡ b → length (optional name p) ≡ optional_size (length p)
    go true e =
        let z : length p ≡ 0 = eqb-true (length p) 0 e in
        ap length (optional-none name p z) ∙ sym (size_none (length p) z)
    go false e =
        let z : length p ≡ 0 → ⊥ = eqb-false (length p) 0 e in
        ap length (optional-some name p z) ∙ chunk-length name (length p) p ∙ sym (size-some (length p) z)

pub opening-length : (form : Form) (size audio frames : ℕ) → length (opening_bytes form size audio frames) ≡ 48
unfolding opening_bytes first_chunk chunk_bytes chunk_with pad_of bytes name_of own_field
opening-length Riff size audio frames = refl
opening-length Rf64 size audio frames = refl
opening-length Bw64 size audio frames = refl
