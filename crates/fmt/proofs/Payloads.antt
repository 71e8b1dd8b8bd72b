-- The payload of a record: how long it is, and what storing it leaves; and of a record that can be written, whose payload has
-- as many bytes as its size says, what the writer answers.
-- Assumes nothing.
use mathlib.Core.Path.{◌≡◌, refl, sym, ap, ◌∙◌}
use mathlib.Core.Bool.{true, false}
use mathlib.Core.List.{List, [], ◌∷◌, ◌++◌}
use mathlib.Core.Logic.{◌⊎◌, inl, inr}
use Prim.Native.Nat.{ℕ, ◌+◌, ◌*◌, ◌≤◌, ◌<◌}
use native.Mathlib.Nat.{zero-add}
use native.Mathlib.Omega.{arith}
use lib.ListN.{length, drop, length-append}
use lib.Seq.{sets}
use lib.Dec.{eqb}
use borrow.Author.Tests.{eq-eqb, eqb-true}
use Rattle.le.specs.Number.{bytes}
use Rattle.le.proofs.Laws.{sets-append}
use Rattle.chunk.specs.declared.Refusal.TheVariants.{BadRecord, ShortOutput}
use Rattle.chunk.specs.Refusals.{Ok, Err}
use Rattle.chunk.specs.Writes.{fitting, output_of, Writes}
use Rattle.chunk.proofs.Checks.{check-true, check-false, check-given, given-inj}
use Rattle.chunk.proofs.Outputs.{puts-front, no_room, room, refuses, lacks-room, writes}
use Rattle.fmt.specs.declared.Format.{Format}
use Rattle.fmt.specs.Formats.{record_good}
use Rattle.fmt.specs.Writing.{head_bytes, extra_bytes, format_bytes, fields_fit, writable, format_out}
use Rattle.fmt.proofs.Laws.{all, every_of, good, size-cases, Fits, fits, fits-of, extra-16, extra-18, extra-40}

-- ---- lengths

head-length : (f : Format) → length (head_bytes f) ≡ 16
unfolding head_bytes bytes
head-length f = refl

pub long-all : (f : Format) → length (format_bytes f) ≡ 16 + length (extra_bytes f)
unfolding format_bytes
long-all f = omega (arith, length-append (head_bytes f) (extra_bytes f), head-length f)

pub long-16 : (f : Format) → (f.size ≡ 18 → ⊥) → (f.size ≡ 40 → ⊥) → length (format_bytes f) ≡ 16
long-16 f h k = omega (arith, long-all f, ap length (extra-16 f h k))

pub long_18 : (f : Format) → f.size ≡ 18 → length (format_bytes f) ≡ 18
unfolding bytes
long_18 f e = omega (arith, long-all f, ap length (extra-18 f e))

pub long_40 : (f : Format) → f.size ≡ 40 → length (format_bytes f) ≡ 40
unfolding bytes
long_40 f e = omega (arith, long-all f, ap length (extra-40 f e))

pub payload-length : (f : Format) → record_good f ≡ true → length (format_bytes f) ≡ f.size
payload-length f h = cases (size-cases _ _ (good f h).size)
  where
    cases : (f.size ≡ 16) ⊎ ((f.size ≡ 18) ⊎ (f.size ≡ 40)) → length (format_bytes f) ≡ f.size
    cases (inl e) = long-16 f (omega arith) (omega arith) ∙ sym e
    cases (inr (inl e)) = long_18 f e ∙ sym e
    cases (inr (inr e)) = long_40 f e ∙ sym e

-- ---- records that can be written

pub record Writable (f : Format) : Type 0 where
  pub fit : Fits f
  pub good : record_good f ≡ true
  pub product : f.byterate ≡ f.rate * f.block

pub writable-true : (f : Format) → writable f ≡ true → Writable f
unfolding writable
writable-true f h =
    let k = all (fields_fit f ∷ record_good f ∷ eqb f.byterate (f.rate * f.block) ∷ []) h in
    record { fit = fits f k.0; good = k.1.0; product = eqb-true _ _ k.1.1.0 }

pub writable-of : (f : Format) → Writable f → writable f ≡ true
unfolding writable
writable-of f h =
    every_of
    (fields_fit f ∷ record_good f ∷ eqb f.byterate (f.rate * f.block) ∷ [])
    (fits-of f h.fit, (h.good, (eq-eqb _ _ h.product, tt)))

pub out-given : (f : Format) (bs : List ℕ) → format_out f ≡ Ok bs → (writable f ≡ true) × (bs ≡ format_bytes f)
unfolding format_out
out-given f bs h =
    let k = check-given (writable f) BadRecord (Ok (format_bytes f)) bs h in
    (k.0, sym (given-inj (format_bytes f) bs k.1))

pub out_of : (f : Format) → writable f ≡ true → format_out f ≡ Ok (format_bytes f)
unfolding format_out
out_of f h = check-true (writable f) BadRecord (Ok (format_bytes f)) h

-- ---- what is stored

module _ (f : Format) (s : List ℕ) where
  pub stores-none : length s < length (format_bytes f) → s ≡ output_of s (fitting s (Ok (format_bytes f)))
  unfolding output_of
  stores-none h = sym (ap (output_of s) (no_room (format_bytes f) s h))

  pub stores-all : (t : List ℕ) → length (format_bytes f) ≤ length s → t ≡ sets (sets s 0 (head_bytes f)) 16 (extra_bytes f)
      → t ≡ output_of s (fitting s (Ok (format_bytes f)))
  unfolding output_of format_bytes
  stores-all t h e =
      e
      ∙ ap (λ (k : ℕ). sets (sets s 0 (head_bytes f)) k (extra_bytes f)) (sym (head-length f) ∙ sym (zero-add _))
      ∙ sym (sets-append (head_bytes f) (extra_bytes f) s 0)
      ∙ puts-front s (format_bytes f) h
      ∙ sym (ap (output_of s) (room (format_bytes f) s h))

-- ---- what the writer answers and leaves

pub refuse16 : (f : Format) (s : List ℕ) → writable f ≡ false → Writes (format_out f) s s (Err BadRecord)
unfolding format_out
refuse16 f s h = refuses (format_out f) s BadRecord (check-false (writable f) BadRecord (Ok (format_bytes f)) h)

module _ (f : Format) (s : List ℕ) (can : writable f ≡ true) where
  long : length (format_bytes f) ≡ f.size
  long = payload-length f (writable-true f can).good

  pub refuse15 : length s < f.size → Writes (format_out f) s s (Err ShortOutput)
  refuse15 h = lacks-room (format_out f) s (format_bytes f) (out_of f can) (omega (arith, long))

  pub wrote : (t : List ℕ) → f.size ≤ length s → t ≡ output_of s (fitting s (Ok (format_bytes f)))
      → Writes (format_out f) s t (Ok f.size)
  unfolding output_of
  wrote t h e =
      writes (format_out f) s (format_bytes f) (out_of f can) t f.size (sym long) h
      (e ∙ ap (output_of s) (room (format_bytes f) s (omega (arith, long))) ∙ ap (λ (k : ℕ). format_bytes f ++ drop k s) long)
