-- Document 01, "chna" (002 8): an entry, and the rules of a used one.
use Rattle.std.specs.Prelude.{ℕ, Bool, true, ◌||◌, List, [], ◌∷◌, length, Option, Some, None, eqb, leb, ltb}
use Rattle.le.specs.Number.{field, number}
use Rattle.le.specs.Choice.{pick, every}
use Rattle.chna_entry.specs.declared.Entry.{Entry as Value}
use Rattle.chna_entry.specs.Ids.{fits, UNUSED, UID, TRACK, CHANNEL, PACK, NOPACK}

-- what a used entry says: its track index, UID, track reference and pack reference
pub record Used : Type 0 where
  pub index : ℕ
  pub uid : List ℕ
  pub track : List ℕ
  pub pack : List ℕ

pub data Entry : Type 0 where
  unused : Entry
  used : Used → Entry

-- "entries of 40 bytes: track index (16 bits), UID 12, track reference 14, pack reference 11, one pad"
unfoldable pub used_in : List ℕ → Used
used_in e =
    record {
      index = number 2 0 e;
      uid = field 12 2 e;
      track = field 14 14 e;
      pack = field 11 28 e;
    }

-- "An unused entry is 40 zero bytes"
unfoldable pub entry_in : List ℕ → Entry
unfolding pick
entry_in e = pick (fits UNUSED e) unused (used (used_in e))

-- "A used one has an index from 1 to the channel count", in its 16 bits, and identifiers of the forms in Ids
unfoldable pub used_good : ℕ → Used → Bool
unfolding every
used_good channels u =
    every
    (leb 1 u.index
    ∷ leb u.index channels
    ∷ ltb u.index 65536
    ∷ fits UID u.uid
    ∷ (fits TRACK u.track || fits CHANNEL u.track)
    ∷ (fits PACK u.pack || fits NOPACK u.pack)
    ∷ [])

unfoldable pub entry_good : ℕ → Entry → Bool
entry_good channels unused = true
entry_good channels (used u) = used_good channels u

-- ---- an entry by value

-- "entries of 40 bytes": any other number of bytes is no entry, and so not used
unfoldable pub whole_entry : List ℕ → Entry
unfolding pick
whole_entry e = pick (eqb (length e) 40) (entry_in e) unused

-- the code's value: what a used one says, or none
unfoldable pub value_of : Entry → Option Value
value_of unused = None
value_of (used u) = Some (record { index = u.index; uid = u.uid; track = u.track; pack = u.pack })
