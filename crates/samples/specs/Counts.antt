-- Document 01, "Shape of a file": the sample count, "a question apart from the table".
use Rattle.std.specs.Prelude.{ℕ, List, [], ◌∷◌, Option, Some, None, eqb}
use Rattle.le.specs.Number.{number}
use Rattle.le.specs.Choice.{pick}
use Rattle.chunk.specs.Refusals.{Answer, Err, Ok, and_then}
use Rattle.chunk.specs.Names.{FACT}
use Rattle.chunk.specs.Fields.{ONES}
use Rattle.chunk.specs.Tables.{count, find}
use Rattle.form.specs.declared.Form.{Form}
use Rattle.form.specs.declared.Form.TheVariants.{Riff, Rf64, Bw64}
use Rattle.wave.specs.Scans.{Scan, scan}

-- "the first 32 bits of fact, save that in RF64 all ones there means the third ds64 number"
unfoldable pub fact_count : Form → ℕ → ℕ → ℕ
unfolding pick
fact_count Riff third own = own
fact_count Rf64 third own = pick (eqb own ONES) third own
fact_count Bw64 third own = own

-- "none without fact"
unfoldable pub samples_in : Scan → List ℕ → Option ℕ
unfolding pick
samples_in a s =
    pick (eqb (count FACT a.rows) 0) None
    (Some (fact_count a.head.form a.head.ds64.third (number 4 (find FACT a.rows).place s)))

-- "asked of a file with the scan's refusals"
unfoldable pub samples_of : List ℕ → Answer (Option ℕ)
unfolding and_then
samples_of s = and_then (scan s) λ a. Ok (samples_in a s)

-- the values of this answer: 1 and the count, or two zeros
unfoldable pub samples_values : Answer (Option ℕ) → List ℕ
samples_values (Ok (Some n)) = 1 ∷ n ∷ []
samples_values (Ok None) = 0 ∷ 0 ∷ []
samples_values (Err r) = 0 ∷ 0 ∷ []
