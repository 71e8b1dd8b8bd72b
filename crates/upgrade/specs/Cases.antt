-- Document 01, "Cases at the edges": its whole file and the twelve cases, as one table of what the definitions answer and
-- what the document says. proofs/Cases.antt computes that the two agree.
use Rattle.std.specs.Prelude.{◌≡◌, ℕ, List, [], ◌∷◌, ◌++◌, take, set, replicate}
use Rattle.std.proofs.lemmas.List.Edits.{sets}
use Rattle.le.specs.Number.{number}
use Rattle.chunk.specs.declared.Entry.{Entry}
use Rattle.chunk.specs.Refusals.{Answer, Err, Ok, refusal_number, number_of}
use Rattle.chunk.specs.Names.{JUNK, FMT, DATA, DS64}
use Rattle.chunk.specs.Sources.{source_number}
use Rattle.chunk.specs.Walks.{Walked}
use Rattle.wave.specs.Scans.{Scan, scan, walk32}
use Rattle.upgrade.specs.declared.Target.TheVariants.{Rf64, Bw64}
use Rattle.upgrade.specs.Upgrades.{upgraded}

-- "Whole file, two channels, 16 bits, 48,000, one frame, 84 bytes"
unfoldable pub file : List ℕ
file =
    0x52 ∷ 0x49 ∷ 0x46 ∷ 0x46 ∷ 0x4C ∷ 0x00 ∷ 0x00 ∷ 0x00 ∷ 0x57 ∷ 0x41 ∷ 0x56 ∷ 0x45
    ∷ 0x4A ∷ 0x55 ∷ 0x4E ∷ 0x4B ∷ 0x1C ∷ 0x00 ∷ 0x00 ∷ 0x00 ∷ replicate 28 0x00
    ++ (0x66 ∷ 0x6D ∷ 0x74 ∷ 0x20 ∷ 0x10 ∷ 0x00 ∷ 0x00 ∷ 0x00 ∷ 0x01 ∷ 0x00 ∷ 0x02 ∷ 0x00 ∷ 0x80 ∷ 0xBB ∷ 0x00 ∷ 0x00
    ∷ 0x00 ∷ 0xEE ∷ 0x02 ∷ 0x00 ∷ 0x04 ∷ 0x00 ∷ 0x10 ∷ 0x00
    ∷ 0x64 ∷ 0x61 ∷ 0x74 ∷ 0x61 ∷ 0x04 ∷ 0x00 ∷ 0x00 ∷ 0x00 ∷ 0x01 ∷ 0x00 ∷ 0xFF ∷ 0xFF ∷ [])

-- what is compared: the number of a refusal, or 0, and then the rows as name, place, size, and (document 02) the number of
-- the size's source: 0 but for data of an upgraded file, where it is 1
unfoldable pub cells : List Entry → List ℕ
cells [] = []
cells (e ∷ es) = e.name ∷ e.place ∷ e.size ∷ source_number e.source ∷ cells es

unfoldable pub scanned : Answer Scan → List ℕ
scanned (Err r) = refusal_number r ∷ []
scanned (Ok a) = 0 ∷ cells a.rows

unfoldable pub walked : Walked → List ℕ
walked w = number_of w.end ∷ cells w.rows

-- the upgraded file handed on, or the upgrade's refusal
unfoldable pub onto : Answer (List ℕ) → (List ℕ → List ℕ) → List ℕ
onto (Err r) f = refusal_number r ∷ []
onto (Ok t) f = f t

unfoldable pub fine : List ℕ → List ℕ
fine t = 0 ∷ []

pub record Case : Type 0 where
  pub answered : List ℕ
  pub said : List ℕ

unfoldable pub case : List ℕ → List ℕ → Case
case a b = record { answered = a; said = b }

unfoldable pub ones : ℕ → List ℕ
ones at = sets file at (0xFF ∷ 0xFF ∷ 0xFF ∷ 0xFF ∷ [])

unfoldable pub cases : List Case
cases =
    -- P1 empty input: 1
    case (scanned (scan [])) (1 ∷ [])
    -- P2 the file above: its table, JUNK 20 28; fmt 56 16; data 80 4
    ∷ case (scanned (scan file)) (0 ∷ JUNK ∷ 20 ∷ 28 ∷ 0 ∷ FMT ∷ 56 ∷ 16 ∷ 0 ∷ DATA ∷ 80 ∷ 4 ∷ 0 ∷ [])
    -- P3 it with byte 0 changed: 2
    ∷ case (scanned (scan (set file 0 0x53))) (2 ∷ [])
    -- P4 it with form field all ones: 3
    ∷ case (scanned (scan (ones 4))) (3 ∷ [])
    -- P5 one byte cut: 5
    ∷ case (scanned (scan (take 83 file))) (5 ∷ [])
    -- P6 data field 5: 8
    ∷ case (scanned (scan (set file 76 5))) (8 ∷ [])
    -- P7 data field all ones in RIFF: 7
    ∷ case (scanned (scan (ones 76))) (7 ∷ [])
    -- P8 upgraded to RF64: same places, walk shows ds64 and fmt, then 7
    ∷ case (onto (upgraded Rf64 file) λ t. scanned (scan t)) (0 ∷ DS64 ∷ 20 ∷ 28 ∷ 0 ∷ FMT ∷ 56 ∷ 16 ∷ 0 ∷ DATA ∷ 80 ∷ 4 ∷ 1 ∷ [])
    ∷ case (onto (upgraded Rf64 file) λ t. walked (walk32 t)) (7 ∷ DS64 ∷ 20 ∷ 28 ∷ 0 ∷ FMT ∷ 56 ∷ 16 ∷ 0 ∷ [])
    -- P9 upgraded to BW64: third number 0
    ∷ case (onto (upgraded Bw64 file) λ t. number 8 36 t ∷ []) (0 ∷ [])
    -- P10 upgraded twice: 18
    ∷ case (onto (upgraded Rf64 file) λ t. onto (upgraded Rf64 t) fine) (18 ∷ [])
    -- P11 JUNK renamed FREE: upgrade 19
    ∷ case (onto (upgraded Rf64 (sets file 12 (0x46 ∷ 0x52 ∷ 0x45 ∷ 0x45 ∷ []))) fine) (19 ∷ [])
    -- P12 RF64 of 12 bytes: 4
    ∷ case (scanned (scan (sets (take 12 file) 0 (0x52 ∷ 0x46 ∷ 0x36 ∷ 0x34 ∷ [])))) (4 ∷ [])
    ∷ []

-- each case is answered as the document says
unfoldable pub agree : List Case → Type 0
agree [] = Unit {0}
agree (c ∷ cs) = (c.answered ≡ c.said) × agree cs
