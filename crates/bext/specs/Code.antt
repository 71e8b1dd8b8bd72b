-- What only the code's contracts need.
use Rattle.std.specs.Prelude.{ℕ, ◌≤◌, ◌≡◌, Option, Some, None, List, length}
use Rattle.le.specs.Choice.{pick, every}
use Rattle.bext.specs.declared.Bext.{Bext}
use Rattle.bext.specs.Records.{Whole, rules_of, whole_in, numbers_of}

-- ---- reading

-- the record of a payload, where it keeps all rules
unfoldable pub numbers_in : List ℕ → Option Bext
unfolding pick
numbers_in p = pick (every (rules_of p)) (Some (numbers_of (whole_in p))) None

-- ---- writing

-- each part of a record fits its place
pub record Fitting (w : Whole) : Type 0 where
  pub description_fits : length w.description ≤ 256
  pub originator_fits : length w.originator ≤ 32
  pub reference_fits : length w.reference ≤ 32
  pub date_fits : length w.date ≤ 10
  pub time_fits : length w.time ≤ 8
  pub rest_fits : length w.rest ≡ 254
