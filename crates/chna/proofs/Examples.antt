-- 002 8.3's examples of chna, each read as it says there: track count, UID count, and how many ID structures there are.
-- Assumes nothing.
use mathlib.Core.Path.{◌≡◌, refl}
use mathlib.Core.List.{List, [], ◌∷◌, ◌++◌}
use Prim.Native.Nat.{ℕ}
use Prim.Native.String.{String}
use lib.ListN.{replicate}
use Rattle.le.specs.Number.{bytes, field, number, value}
use Rattle.chunk.specs.Refusals.{Answer, Ok, check}
use Rattle.chna.specs.declared.Chna.{Chna}
use Rattle.chna_entry.specs.Ids.{is_hex, fits_one, fits, codes}
use Rattle.chna_entry.specs.Entries.{used_in, entry_in, used_good, entry_good}
use Rattle.chna.specs.Records.{entries_at, entries_in, entries_good, indices, occurs, different, whole_of, whole_in, whole_good, length_good, chna_in, numbers_of, read_as}

-- one ID structure
abbrev id : ℕ → String → String → String → List ℕ
id index uid track pack = bytes 2 index ++ codes uid ++ codes track ++ codes pack ++ (0 ∷ [])

-- what the reader answers
abbrev counts : ℕ → ℕ → ℕ → Answer Chna
counts t u n = Ok (record { tracks = t; uids = u; entries = n })

-- 8.3.1, a simple stereo file
stereo : read_as
    (chna_in 2
    (2 ∷ 0 ∷ 2 ∷ 0 ∷ id 1 "ATU_00000001" "AT_00010001_01" "AP_00010002"
    ++ id 2 "ATU_00000002" "AT_00010002_01" "AP_00010002"))
    ≡ counts 2 2 2
unfolding read_as numbers_of chna_in check whole_in whole_of whole_good length_good entries_in entries_at entries_good entry_in entry_good used_in used_good indices different occurs fits fits_one is_hex codes bytes number field value
stereo = refl

-- 8.3.1, the same by channel formats
channels : read_as
    (chna_in 2
    (2 ∷ 0 ∷ 2 ∷ 0 ∷ id 1 "ATU_00000001" "AC_00010001_00" "AP_00010002"
    ++ id 2 "ATU_00000002" "AC_00010002_00" "AP_00010002"))
    ≡ counts 2 2 2
unfolding read_as numbers_of chna_in check whole_in whole_of whole_good length_good entries_in entries_at entries_good entry_in entry_good used_in used_good indices different occurs fits fits_one is_hex codes bytes number field value
channels = refl

-- 8.3.2, objects that share tracks, with 28 unused structures
objects : read_as
    (chna_in 2
    (2 ∷ 0 ∷ 4 ∷ 0 ∷ id 1 "ATU_00000001" "AT_00031001_01" "AP_00031001"
    ++ id 1 "ATU_00000002" "AT_00031003_01" "AP_00031002"
    ++ id 1 "ATU_00000003" "AT_00031004_01" "AP_00031003"
    ++ id 2 "ATU_00000004" "AT_00031002_01" "AP_00031001"
    ++ replicate 1120 0))
    ≡ counts 2 4 32
unfolding read_as numbers_of chna_in check whole_in whole_of whole_good length_good entries_in entries_at entries_good entry_in entry_good used_in used_good indices different occurs fits fits_one is_hex codes bytes number field value
objects = refl

-- 8.3.3, several contents in one file
contents : read_as
    (chna_in 8
    (8 ∷ 0 ∷ 8 ∷ 0 ∷ id 1 "ATU_00000001" "AT_00010001_01" "AP_00010003"
    ++ id 2 "ATU_00000002" "AT_00010002_01" "AP_00010003"
    ++ id 3 "ATU_00000003" "AT_00010003_01" "AP_00010003"
    ++ id 4 "ATU_00000004" "AT_00010004_01" "AP_00010003"
    ++ id 5 "ATU_00000005" "AT_00010005_01" "AP_00010003"
    ++ id 6 "ATU_00000006" "AT_00010006_01" "AP_00010003"
    ++ id 7 "ATU_00000007" "AT_00010001_01" "AP_00010002"
    ++ id 8 "ATU_00000008" "AT_00010002_01" "AP_00010002"))
    ≡ counts 8 8 8
unfolding read_as numbers_of chna_in check whole_in whole_of whole_good length_good entries_in entries_at entries_good entry_in entry_good used_in used_good indices different occurs fits fits_one is_hex codes bytes number field value
contents = refl
