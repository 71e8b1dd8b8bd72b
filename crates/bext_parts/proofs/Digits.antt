-- Two digits: what a test of them says, and that fewer than two bytes are none.
-- Assumes nothing.
use mathlib.Core.Path.{◌≡◌, refl, ap}
use mathlib.Core.Bool.{Bool, true, false}
use mathlib.Core.List.{List}
use Prim.Native.Nat.{ℕ, ◌+◌, ◌≤◌}
use lib.ListN.{length, get_or, get_or-eq_default}
use lib.Dec.{leb}
use borrow.Author.Tests.{leb-true}
use Rattle.chunk.proofs.Checks.{and-true}
use Rattle.bext_parts.specs.Parts.{is_digit, two_digits}

pub digit_low : (b : ℕ) → is_digit b ≡ true → 0x30 ≤ b
unfolding is_digit
digit_low b e = leb-true 0x30 b (and-true (leb 0x30 b) (leb b 0x39) e).0

-- the bytes end before the second, and what is not there is no digit
pub cut_short : (s : List ℕ) (at low high : ℕ) → length s ≤ at + 1 → two_digits s at low high ≡ false
unfolding two_digits is_digit
cut_short s at low high h = which (is_digit (get_or s at 0)) refl
  where
    absent : is_digit (get_or s (at + 1) 0) ≡ false
    absent = ap is_digit (get_or-eq_default s 0 h)

    which : (t : Bool) → is_digit (get_or s at 0) ≡ t → two_digits s at low high ≡ false
    which true e = rw (e, absent)
    which false e = rw e
