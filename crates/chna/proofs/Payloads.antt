-- The bytes of a record that was read from bytes are those bytes, but for the pads.
-- Assumes nothing.
use mathlib.Core.Path.{◌≡◌, refl, sym, ap, ap₂, ◌∙◌}
use mathlib.Core.Bool.{Bool, true, false}
use mathlib.Core.List.{List, [], ◌∷◌, ◌++◌}
use Prim.Native.Nat.{ℕ, zero, suc, ◌*◌, ◌/◌, ◌%◌, ◌≤◌}
use native.Mathlib.Omega.{arith}
use lib.ListN.{length, set, take, drop, length-drop}
use lib.Seq.{length-take-le}
use Rattle.le.specs.Number.{Bytes, bytes, field, stored}
use Rattle.le.specs.Choice.{pick}
use Rattle.le.proofs.Laws.{Bytes-drop, bytes-number}
use Rattle.chna_entry.specs.Ids.{fits, UNUSED}
use Rattle.chna_entry.specs.Entries.{unused, used, used_in, entry_in}
use Rattle.chna.specs.Records.{entry_bytes, entries_at, entries_in, entries_bytes, whole_of, payload_of, pads_at, pads_off}
use Rattle.chna_entry.proofs.Patterns.{zeros-only}
use Rattle.chna_entry.proofs.Parts.{parts}

-- ---- one entry

pub entry-bytes : (e : List ℕ) → Bytes e → length e ≡ 40 → entry_bytes (entry_in e) ≡ set e 39 0
unfolding entry_bytes entry_in used_in pick
entry-bytes e h n = by (fits UNUSED e) refl where
  by : (b : Bool) → fits UNUSED e ≡ b → entry_bytes (pick b unused (used (used_in e))) ≡ set e 39 0
  by true f = sym (ap (λ (l : List ℕ). set l 39 0) (zeros-only 40 e f))
  by false f =
      ap (λ (l : List ℕ). l ++ field 12 2 e ++ field 14 14 e ++ field 11 28 e ++ (0 ∷ [])) (bytes-number 2 0 e h (omega arith))
      ∙ parts e n

-- ---- all entries

pub Bytes-take : (n : ℕ) (s : List ℕ) → Bytes s → Bytes (take n s)
unfolding Bytes
Bytes-take zero s h i = omega arith
Bytes-take (suc n) [] h i = omega arith
Bytes-take (suc n) (x ∷ s) h zero = h 0
Bytes-take (suc n) (x ∷ s) h (suc i) = Bytes-take n s (λ j. h (suc j)) i

entries-bytes : (n : ℕ) (s : List ℕ) → Bytes s → length s ≡ n * 40 → entries_bytes (entries_at n s) ≡ pads_at n s
unfolding entries_bytes entries_at pads_at field
entries-bytes zero [] h e = refl
entries-bytes zero (b ∷ s) h e = absurd (omega arith)
entries-bytes (suc n) s h e =
    ap₂ (λ (a b : List ℕ). a ++ b)
    (entry-bytes (take 40 s) (Bytes-take 40 s h) (length-take-le 40 s (omega arith)))
    (entries-bytes n (drop 40 s) (Bytes-drop 40 s h) (omega (arith, length-drop 40 s)))

pub payload-bytes : (tracks uids : ℕ) (s : List ℕ) → Bytes s → length s % 40 ≡ 0
    → payload_of (whole_of tracks uids s) ≡ bytes 2 tracks ++ bytes 2 uids ++ pads_off s
unfolding payload_of whole_of entries_in pads_off
payload-bytes tracks uids s h e =
    ap (λ (l : List ℕ). bytes 2 tracks ++ bytes 2 uids ++ l) (entries-bytes (length s / 40) s h (omega arith))

-- ---- the counts, stored ahead

pub counts-stored : (tracks uids : ℕ) (out : List ℕ) → 4 ≤ length out
    → stored 2 2 uids (stored 2 0 tracks out) ≡ bytes 2 tracks ++ bytes 2 uids ++ drop 4 out
unfolding stored bytes
counts-stored tracks uids (a ∷ b ∷ c ∷ d ∷ out) h = refl
counts-stored tracks uids (a ∷ b ∷ c ∷ []) h = absurd (omega arith)
counts-stored tracks uids (a ∷ b ∷ []) h = absurd (omega arith)
counts-stored tracks uids (a ∷ []) h = absurd (omega arith)
counts-stored tracks uids [] h = absurd (omega arith)

pub four_bytes : (tracks uids : ℕ) → length (bytes 2 tracks ++ bytes 2 uids) ≡ 4
unfolding bytes
four_bytes tracks uids = refl
