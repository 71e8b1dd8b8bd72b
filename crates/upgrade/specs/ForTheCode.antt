-- The customer's demand 3 for the code: what wave::scan, wave::walk32 and upgrade::upgrade answer, by their contracts and the theorems over
-- the definitions together. `scan_table s` is what wave::scan returns of the bytes s, `walk_table s` what wave::walk32 returns,
-- and `UpgradeDone t s r u` what upgrade::upgrade returns, r, and leaves, u.
use Rattle.std.specs.Prelude.{◌≡◌, List, ◌↔◌, ℕ}
use Rattle.le.specs.Number.{Bytes}
use Rattle.chunk.specs.declared.Refusal.TheVariants.{NoReserve}
use Rattle.chunk.specs.Refusals.{Verdict, Err, Ok}
use Rattle.chunk.specs.Tables.{table_of}
use Rattle.form.specs.declared.Form.TheVariants.{Riff}
use Rattle.wave.specs.Scans.{Scan, scan}
use Rattle.wave.specs.Demand3.{ahead, stop}
use Rattle.wave.specs.Words.{scan_table, walk_table}
use Rattle.upgrade.specs.declared.Target.{Target}
use Rattle.upgrade.specs.Demand3.{Reserved, Upgraded}
use Rattle.upgrade.specs.Words.{UpgradeDone}

-- Of a file that wave::scan accepts:
pub record Walks (s : List ℕ) : Type 0 where
  -- its rows, in the table that the scan returned
  pub accepted : Scan
  pub is : scan s ≡ Ok accepted
  pub table : (scan_table s).table ≡ table_of accepted.rows
  -- wave::walk32 returns exactly the rows ahead of the first all-ones field, then 7; or all of them and no refusal
  pub walked : walk_table s ≡ record { table = table_of (ahead s accepted.rows); verdict = stop s accepted.rows }

-- Of a RIFF file that it accepts, after upgrade::upgrade:
pub record Upgrading (t : Target) (s : List ℕ) (a : Scan) (r : Verdict) (u : List ℕ) : Type 0 where
  -- "Upgrading succeeds exactly when the first chunk is JUNK of at least 28 bytes; otherwise it gives 19"
  pub succeeds : (r ≡ Ok tt) ↔ Reserved a.rows
  pub otherwise : (Reserved a.rows → ⊥) → (r ≡ Err NoReserve) × (u ≡ s)
  -- all that demand 3 says of the file after a success
  pub after : r ≡ Ok tt → Upgraded t s a u

-- What upgrade::upgrade promises of every file that is lent to it: no premise is left but that the scan accepts it as RIFF.
abbrev pub KeepsDemand3 : Target → List ℕ → Verdict → List ℕ → Type 0
KeepsDemand3 t s r u = (a : Scan) → scan s ≡ Ok a → a.head.form ≡ Riff → Upgrading t s a r u

pub record Demand3ForTheCode : Type 0 where
  pub walks : (s : List ℕ) → (scan_table s).verdict ≡ Ok tt → Walks s
  -- a lent run holds bytes, so the upgrade's contract has this without the premise
  pub upgrades : (t : Target) (s : List ℕ) (r : Verdict) (u : List ℕ) → Bytes s → UpgradeDone t s r u → KeepsDemand3 t s r u
