-- What the writer writes, or refuses: a law for each outcome.
-- Assumes nothing.
use mathlib.Core.Path.{◌≡◌, ap, ◌∙◌}
use mathlib.Core.Bool.{true, false}
use mathlib.Core.List.{List, ◌++◌}
use Prim.Native.Nat.{ℕ, ◌+◌, ◌/◌, ◌%◌}
use native.Mathlib.Omega.{arith}
use lib.ListN.{length, length-append}
use lib.Dec.{eqb}
use borrow.Author.Tests.{eq-eqb, ne_eqb}
use Rattle.le.specs.Number.{Bytes, bytes}
use Rattle.chunk.specs.declared.Refusal.TheVariants.{BadRecord}
use Rattle.chunk.specs.Refusals.{Err, Ok}
use Rattle.chunk.proofs.Checks.{check-true, check-false}
use Rattle.chna.specs.Records.{whole_of, whole_good, chna_out, chna_from, pads_off}
use Rattle.chna.proofs.Pads.{pads-length}
use Rattle.chna.proofs.Payloads.{payload-bytes, four_bytes}

pub ragged : (channels tracks uids : ℕ) (s : List ℕ) → (length s % 40 ≡ 0 → ⊥) → chna_from channels tracks uids s ≡ Err BadRecord
unfolding chna_from
ragged channels tracks uids s h = check-false (eqb (length s % 40) 0) BadRecord _ (ne_eqb (length s % 40) 0 h)

pub unwritable : (channels tracks uids : ℕ) (s : List ℕ) → length s % 40 ≡ 0 → whole_good channels (whole_of tracks uids s) ≡ false
    → chna_from channels tracks uids s ≡ Err BadRecord
unfolding chna_from chna_out
unwritable channels tracks uids s h e =
    check-true (eqb (length s % 40) 0) BadRecord _ (eq-eqb (length s % 40) 0 h)
    ∙ check-false (whole_good channels (whole_of tracks uids s)) BadRecord _ e

pub writable : (channels tracks uids : ℕ) (s : List ℕ) → Bytes s → length s % 40 ≡ 0 → whole_good channels (whole_of tracks uids s) ≡ true
    → chna_from channels tracks uids s ≡ Ok (bytes 2 tracks ++ bytes 2 uids ++ pads_off s)
unfolding chna_from chna_out
writable channels tracks uids s b h e =
    check-true (eqb (length s % 40) 0) BadRecord _ (eq-eqb (length s % 40) 0 h)
    ∙ check-true (whole_good channels (whole_of tracks uids s)) BadRecord _ e
    ∙ ap Ok (payload-bytes tracks uids s b h)

pub written-length : (tracks uids : ℕ) (s : List ℕ) → length (bytes 2 tracks ++ bytes 2 uids ++ pads_off s) ≡ 4 + length s
unfolding pads_off
written-length tracks uids s =
    omega
    (arith, length-append (bytes 2 tracks ++ bytes 2 uids) (pads_off s), four_bytes tracks uids, pads-length (length s / 40) s (omega arith))
