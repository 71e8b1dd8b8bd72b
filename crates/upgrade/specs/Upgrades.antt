-- Document 01, "Writing and upgrading": the upgrade as a list of 32-bit stores.
use Rattle.std.specs.Prelude.{ℕ, ◌+◌, ◌-◌, ◌/◌, Bool, false, not, ◌&&◌, List, [], ◌∷◌, ◌++◌, eqb, leb}
use Rattle.le.specs.Number.{number, stored}
use Rattle.le.specs.Choice.{pick}
use Rattle.chunk.specs.declared.Entry.{Entry}
use Rattle.chunk.specs.declared.Refusal.TheVariants.{Already64, NoReserve}
use Rattle.chunk.specs.Refusals.{Answer, Ok, check, and_then}
use Rattle.chunk.specs.Names.{RF64, BW64, DS64, JUNK, FACT, DATA}
use Rattle.chunk.specs.Fields.{ONES}
use Rattle.chunk.specs.Tables.{count, find}
use Rattle.form.specs.Forms.{is_wide, form_size, LEAST}
use Rattle.wave.specs.Scans.{Scan, scan}
use Rattle.upgrade.specs.declared.Target.{Target}
use Rattle.upgrade.specs.declared.Target.TheVariants.{Rf64, Bw64}

-- one store: a 32-bit field at a place
pub record Patch : Type 0 where
  pub place : ℕ
  pub value : ℕ

unfoldable pub patch : ℕ → ℕ → Patch
patch at v = record { place = at; value = v }

-- the low and the high half of a 64-bit number, as two fields
unfoldable pub halves : ℕ → ℕ → List Patch
halves at v = patch at v ∷ patch (at + 4) (v / 0x1_0000_0000) ∷ []

unfoldable pub has_fact : Scan → Bool
has_fact a = not (eqb (count FACT a.rows) 0)

-- "a frame is one block of it"
unfoldable pub frames : Scan → ℕ
frames a = (find DATA a.rows).size / a.format.block

-- "The third number is then fact's old count, or the frames without fact; for BW64 zero"
unfoldable pub third_for : Target → Scan → List ℕ → ℕ
unfolding pick
third_for Rf64 a s = pick (has_fact a) (number 4 (find FACT a.rows).place s) (frames a)
third_for Bw64 a s = 0

-- "for RF64 with fact, fact's first 4 bytes, set to all ones"; "for BW64 .. fact unchanged"
unfoldable pub fact_patch : Target → Scan → List Patch
unfolding pick
fact_patch Rf64 a = pick (has_fact a) (patch (find FACT a.rows).place ONES ∷ []) []
fact_patch Bw64 a = []

unfoldable pub target_name : Target → ℕ
target_name Rf64 = RF64
target_name Bw64 = BW64

-- All that the upgrade changes, in the order of the stores: "the 28 bytes hold the true form size, the true data size,
-- the third number and an entry count of 0"; JUNK's name; fact; "The form and data fields become all ones"; the form name.
unfoldable pub patches : Target → Scan → List ℕ → List Patch
patches t a s =
    halves 20 (form_size a.head (number 4 4 s))
    ++ halves 28 (find DATA a.rows).size
    ++ halves 36 (third_for t a s)
    ++ (patch 44 0 ∷ patch 12 DS64 ∷ [])
    ++ fact_patch t a
    ++ (patch ((find DATA a.rows).place - 4) ONES ∷ patch 4 ONES ∷ patch 0 (target_name t) ∷ [])

-- the file after these stores
unfoldable pub patched : List Patch → List ℕ → List ℕ
patched [] s = s
patched (p ∷ ps) s = patched ps (stored 4 p.place p.value s)

-- 19: "first chunk isn't JUNK of 28 or more"
unfoldable pub reserved : List Entry → Bool
reserved [] = false
reserved (e ∷ es) = eqb e.name JUNK && leb LEAST e.size

-- "The upgrade: the scan's own refusal, 18, 19"; else the file upgraded
unfoldable pub upgraded : Target → List ℕ → Answer (List ℕ)
unfolding and_then check
upgraded t s =
    and_then (scan s) λ a.
    check (not (is_wide a.head.form)) Already64
    (check (reserved a.rows) NoReserve
    (Ok (patched (patches t a s) s)))
