-- The third number of the new ds64, one law a case.
-- Assumes nothing.
use mathlib.Core.Path.{◌≡◌, refl}
use mathlib.Core.Bool.{true, false}
use mathlib.Core.List.{List}
use Prim.Native.Nat.{ℕ}
use Rattle.le.specs.Number.{number}
use Rattle.chunk.specs.Names.{FACT}
use Rattle.chunk.specs.Tables.{find}
use Rattle.chunk.proofs.Checks.{pick_true, pick-false}
use Rattle.wave.specs.Scans.{Scan}
use Rattle.upgrade.specs.declared.Target.TheVariants.{Rf64, Bw64}
use Rattle.upgrade.specs.Upgrades.{has_fact, frames, third_for}

-- "The third number is then fact's old count"
pub third-fact : (a : Scan) (s : List ℕ) → has_fact a ≡ true → third_for Rf64 a s ≡ number 4 (find FACT a.rows).place s
unfolding third_for
third-fact a s e = pick_true (has_fact a) _ _ e

-- "or the frames without fact"
pub third-frames : (a : Scan) (s : List ℕ) → has_fact a ≡ false → third_for Rf64 a s ≡ frames a
unfolding third_for
third-frames a s e = pick-false (has_fact a) _ _ e

-- "for BW64 zero"
pub third_zero : (a : Scan) (s : List ℕ) → third_for Bw64 a s ≡ 0
unfolding third_for
third_zero a s = refl
