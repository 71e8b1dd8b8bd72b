-- The edges of bext's rules, on both sides: what keeps its rule, and what breaks it by one. proofs/Cases.antt computes it.
use Rattle.std.specs.Prelude.{ℕ, Bool, true, false, not, List, [], ◌∷◌, ◌++◌, replicate, eqb}
use Rattle.std.proofs.lemmas.List.Edits.{sets}
use Rattle.chunk.specs.Refusals.{Answer, Err, Ok, refusal_number}
use Rattle.bext_parts.specs.Parts.{text_good, date_good, time_good, rest_good}
use Rattle.bext.specs.Records.{Whole, bext_in}

-- 2024?mm.dd by the two digits of month and day, and the first separator
unfoldable pub dated : ℕ → ℕ → ℕ → ℕ → ℕ → List ℕ
dated separator m n d e = 0x32 ∷ 0x30 ∷ 0x32 ∷ 0x34 ∷ separator ∷ m ∷ n ∷ 0x2E ∷ d ∷ e ∷ []

-- hh:mm:ss by its digits
unfoldable pub timed : ℕ → ℕ → ℕ → ℕ → ℕ → ℕ → List ℕ
timed h i m n s t = h ∷ i ∷ 0x3A ∷ m ∷ n ∷ 0x3A ∷ s ∷ t ∷ []

-- a payload of zeros but for bytes put at a place
unfoldable pub payload : ℕ → ℕ → List ℕ → List ℕ
payload size at bs = sets (replicate size 0) at bs

-- whether a payload is accepted, and where not, whether by 13
unfoldable pub accepted : Answer Whole → Bool
accepted (Err r) = false
accepted (Ok w) = true

unfoldable pub refused_by13 : Answer Whole → Bool
refused_by13 (Err r) = eqb (refusal_number r) 13
refused_by13 (Ok w) = false

-- month 01 and 12, day 01 and 31; each separator; hours 00 and 24, minutes and seconds 59; texts; the bytes after Version
unfoldable pub good : List Bool
good =
    date_good (dated 0x2D 0x30 0x31 0x30 0x31)
    ∷ date_good (dated 0x5F 0x31 0x32 0x33 0x31)
    ∷ date_good (dated 0x3A 0x31 0x32 0x33 0x31)
    ∷ date_good (dated 0x20 0x31 0x32 0x33 0x31)
    ∷ date_good (dated 0x2E 0x30 0x32 0x33 0x31)
    ∷ time_good (timed 0x30 0x30 0x30 0x30 0x30 0x30)
    ∷ time_good (timed 0x32 0x34 0x35 0x39 0x35 0x39)
    ∷ text_good []
    ∷ text_good (0xFF ∷ 0x80 ∷ [])
    ∷ text_good (0x41 ∷ 0 ∷ 0 ∷ [])
    ∷ rest_good 0 (replicate 254 0)
    ∷ rest_good 1 (1 ∷ replicate 253 0)
    ∷ accepted (bext_in (payload 602 0 []))
    ∷ accepted (bext_in (payload 602 256 (0x41 ∷ 0x42 ∷ [])))
    ∷ accepted (bext_in (payload 602 320 (dated 0x2D 0x30 0x31 0x30 0x31)))
    ∷ accepted (bext_in (payload 605 602 (0x41 ∷ [])))
    ∷ []

-- month 00 and 13, day 00 and 32, no digit, another separator; hour 25, minute and second 60; a byte after the first zero
unfoldable pub bad : List Bool
bad =
    not (date_good (dated 0x2D 0x30 0x30 0x30 0x31))
    ∷ not (date_good (dated 0x2D 0x31 0x33 0x30 0x31))
    ∷ not (date_good (dated 0x2D 0x30 0x31 0x30 0x30))
    ∷ not (date_good (dated 0x2D 0x30 0x31 0x33 0x32))
    ∷ not (date_good (dated 0x2D 0x30 0x3A 0x30 0x31))
    ∷ not (date_good (dated 0x2D 0x30 0x2F 0x30 0x31))
    ∷ not (date_good (dated 0x2F 0x30 0x31 0x30 0x31))
    ∷ not (date_good (dated 0x2C 0x30 0x31 0x30 0x31))
    ∷ not (date_good (dated 0 0x30 0x31 0x30 0x31))
    ∷ not (time_good (timed 0x32 0x35 0x30 0x30 0x30 0x30))
    ∷ not (time_good (timed 0x30 0x30 0x36 0x30 0x30 0x30))
    ∷ not (time_good (timed 0x30 0x30 0x30 0x30 0x36 0x30))
    ∷ not (text_good (0x41 ∷ 0 ∷ 0x42 ∷ []))
    ∷ not (rest_good 0 (replicate 253 0 ++ (1 ∷ [])))
    ∷ refused_by13 (bext_in (payload 601 0 []))
    ∷ refused_by13 (bext_in (payload 602 255 (0x41 ∷ [])))
    ∷ refused_by13 (bext_in (payload 602 320 (dated 0x2D 0x31 0x33 0x30 0x31)))
    ∷ refused_by13 (bext_in (payload 602 320 (0x32 ∷ [])))
    ∷ refused_by13 (bext_in (payload 602 337 (0x30 ∷ [])))
    ∷ refused_by13 (bext_in (payload 602 601 (1 ∷ [])))
    ∷ refused_by13 (bext_in (payload 605 603 (0x41 ∷ [])))
    ∷ []
