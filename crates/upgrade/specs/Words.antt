-- What the upgrade answers, and what it leaves.
use Rattle.std.specs.Prelude.{ℕ, ◌≡◌, List}
use Rattle.chunk.specs.Refusals.{Answer, Verdict, Err, Ok, verdict_of}
use Rattle.upgrade.specs.declared.Target.{Target}
use Rattle.upgrade.specs.Upgrades.{upgraded}

-- the file after an upgrade: as it was after a refusal (the customer's demand 1)
unfoldable pub file_after : List ℕ → Answer (List ℕ) → List ℕ
file_after s (Err r) = s
file_after s (Ok u) = u

pub record UpgradeDone (t : Target) (s : List ℕ) (r : Verdict) (u : List ℕ) : Type 0 where
  pub verdict : r ≡ verdict_of (upgraded t s)
  pub bytes : u ≡ file_after s (upgraded t s)
