-- What only the code's contracts need: what it knows of a file, and the stores that it makes of that.
use Rattle.std.specs.Prelude.{ℕ, ◌+◌, ◌-◌, ◌/◌, ◌≤◌, ◌≡◌, ◌&&◌, List, [], ◌∷◌, ◌++◌, Option, None, Some, length, eqb, leb}
use Rattle.le.specs.Number.{number}
use Rattle.le.specs.Choice.{pick}
use Rattle.chunk.specs.declared.Header.{Header}
use Rattle.chunk.specs.Refusals.{Ok}
use Rattle.chunk.specs.Names.{DS64, JUNK}
use Rattle.chunk.specs.Fields.{ONES}
use Rattle.form.specs.declared.Ds64.{Ds64}
use Rattle.form.specs.Forms.{LEAST}
use Rattle.wave.specs.declared.judgement.Accepted.{Accepted}
use Rattle.wave.specs.Scans.{Scan, scan}
use Rattle.wave.specs.Code.{accepted_of}
use Rattle.upgrade.specs.declared.Reserve.{Reserve}
use Rattle.upgrade.specs.declared.Changes.{Changes}
use Rattle.upgrade.specs.declared.Target.{Target}
use Rattle.upgrade.specs.declared.Target.TheVariants.{Rf64, Bw64}
use Rattle.upgrade.specs.Upgrades.{Patch, patch, halves, target_name}

-- what is known of a file is what the scan knows of it
pub record Knows (s : List ℕ) (k : Accepted) : Type 0 where
  pub scanned : Scan
  pub is : scan s ≡ Ok scanned
  pub known : k ≡ accepted_of s scanned

-- a header that announces a reserve
unfoldable pub reserve_as : Header → Option Reserve
unfolding pick
reserve_as h = pick (eqb h.name JUNK && leb LEAST h.field) (Some (record { size = h.field })) None

-- ---- what is stored

unfoldable pub third_as : Option ℕ → Accepted → List ℕ → ℕ
third_as None k s = k.audio.size / k.format.block
third_as (Some p) k s = number 4 p s

unfoldable pub third_of : Target → Accepted → List ℕ → ℕ
third_of Rf64 k s = third_as k.fact k s
third_of Bw64 k s = 0

-- where fact's count is, if it moves
unfoldable pub fact_moved : Target → Option ℕ → Option ℕ
fact_moved Rf64 m = m
fact_moved Bw64 m = None

unfoldable pub changes_of : Target → Accepted → List ℕ → Changes
changes_of t k s =
    record {
      ds64 = record { form_size = length s - 8; data_size = k.audio.size; third = third_of t k s; count = 0 };
      fact = fact_moved t k.fact;
      data_field = k.audio.place - 4;
      name = target_name t;
    }

-- ---- the stores

unfoldable pub ds64_stores : Ds64 → List Patch
ds64_stores d =
    halves 20 d.form_size ++ halves 28 d.data_size ++ halves 36 d.third ++ (patch 44 d.count ∷ patch 12 DS64 ∷ [])

unfoldable pub fact_store : Option ℕ → List Patch
fact_store None = []
fact_store (Some p) = patch p ONES ∷ []

unfoldable pub field_stores : ℕ → ℕ → List Patch
field_stores at name = patch at ONES ∷ patch 4 ONES ∷ patch 0 name ∷ []

unfoldable pub stores : Changes → List Patch
stores w = ds64_stores w.ds64 ++ fact_store w.fact ++ field_stores w.data_field w.name

-- each of them lies in the file
pub record Inside (w : Changes) (s : List ℕ) : Type 0 where
  pub long : 20 + LEAST ≤ length s
  pub fact : (p : ℕ) → w.fact ≡ Some p → p + 4 ≤ length s
  pub data_field : w.data_field + 4 ≤ length s
