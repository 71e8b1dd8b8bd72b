-- What the exported readers of records answer, as include/symphedra.h lays it out.
use Rattle.std.specs.Prelude.{ℕ, ◌+◌, ◌*◌, List, [], ◌∷◌, length, replicate, leb}
use Rattle.std.proofs.lemmas.List.Edits.{sets}
use Rattle.le.specs.Choice.{pick}
use Rattle.chunk.specs.Refusals.{number_of}
use Rattle.fmt.specs.Formats.{format_in, fmt_values}
use Rattle.bext.specs.Records.{Whole, bext_in, read_as as bextRead, bext_values}
use Rattle.bext.specs.Slices.{parts_in}
use Rattle.chna_entry.specs.Entries.{Entry, unused, used}
use Rattle.chna.specs.Records.{entry_at, chna_in, read_as as chnaRead, chna_values}
use Rattle.words.specs.Answers.{Answers}

-- symphedra_read_fmt of the payload p into the words w: the number r, and the words after it
abbrev pub ReadsFmt : (p w : List ℕ) (r : ℕ) (w' : List ℕ) → Type 0
ReadsFmt p w r w' = Answers 9 (number_of (format_in p)) (sets w 0 (fmt_values (format_in p))) w r w'

-- symphedra_read_bext
abbrev pub ReadsBext : (p w : List ℕ) (r : ℕ) (w' : List ℕ) → Type 0
ReadsBext p w r w' = Answers 8 (number_of (bextRead (bext_in p))) (sets w 0 (bext_values (bextRead (bext_in p)))) w r w'

-- a place and a length for each part: description, originator, reference, date, time, the bytes after Version, history
unfoldable pub places_of : Whole → List ℕ
places_of w =
    0
    ∷ length w.description
    ∷ 256
    ∷ length w.originator
    ∷ 288
    ∷ length w.reference
    ∷ 320
    ∷ length w.date
    ∷ 330
    ∷ length w.time
    ∷ 348
    ∷ length w.rest
    ∷ 602
    ∷ length w.history
    ∷ []

-- zeros where a payload is too short
unfoldable pub parts_values : List ℕ → List ℕ
unfolding pick
parts_values p = pick (leb 602 (length p)) (places_of (parts_in p)) (replicate 14 0)

-- symphedra_bext_parts
abbrev pub PartsOf : (p w : List ℕ) (r : ℕ) (w' : List ℕ) → Type 0
PartsOf p w r w' = Answers 14 0 (sets w 0 (parts_values p)) w r w'

-- symphedra_read_chna, in a file of so many channels
abbrev pub ReadsChna : (channels : ℕ) (p w : List ℕ) (r : ℕ) (w' : List ℕ) → Type 0
ReadsChna channels p w r w' =
    Answers 3 (number_of (chnaRead (chna_in channels p))) (sets w 0 (chna_values (chnaRead (chna_in channels p)))) w r w'

-- "track index (16 bits), UID 12, track reference 14, pack reference 11": 1, the index, and where the others start; zeros for
-- one that is not used
unfoldable pub entry_values : ℕ → Entry → List ℕ
entry_values at unused = replicate 5 0
entry_values at (used u) = 1 ∷ u.index ∷ (at + 2) ∷ (at + 14) ∷ (at + 28) ∷ []

-- symphedra_chna_entry
abbrev pub EntryOf : (i : ℕ) (p w : List ℕ) (r : ℕ) (w' : List ℕ) → Type 0
EntryOf i p w r w' = Answers 5 0 (sets w 0 (entry_values (4 + i * 40) (entry_at i p))) w r w'
