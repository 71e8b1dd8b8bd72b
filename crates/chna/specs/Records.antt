-- Document 01, "chna" (002 8): the record that a payload holds, or 14; the payload of a record, or 16.
use Rattle.std.specs.Prelude.{ℕ, zero, suc, ◌+◌, ◌-◌, ◌*◌, ◌/◌, ◌%◌, ◌≡◌, Bool, true, false, ◌&&◌, List, [], ◌∷◌, ◌++◌, length, take, drop, set, replicate, eqb, leb}
use Rattle.le.specs.Number.{bytes, field, number}
use Rattle.le.specs.Choice.{pick, every}
use Rattle.chunk.specs.declared.Refusal.TheVariants.{BadChna, BadRecord}
use Rattle.chunk.specs.Refusals.{Answer, Err, Ok, check}
use Rattle.chna_entry.specs.Entries.{Used, Entry, unused, used, entry_in, whole_entry, entry_good}
use Rattle.chna.specs.declared.Chna.{Chna}

-- ---- the entries

-- the first n entries
unfoldable pub entries_at : ℕ → List ℕ → List Entry
entries_at zero s = []
entries_at (suc n) s = entry_in (take 40 s) ∷ entries_at n (drop 40 s)

unfoldable pub entries_in : List ℕ → List Entry
entries_in s = entries_at (length s / 40) s

-- "then N entries of 40 bytes": entry i of a payload. One whose 40 bytes don't all lie in it isn't there, and so not used.
unfoldable pub entry_at : ℕ → List ℕ → Entry
entry_at i p = whole_entry (field 40 (4 + i * 40) p)

-- where a used entry i has its UID, track reference and pack reference in the payload
pub record EntryStands (i : ℕ) (p : List ℕ) (u : Used) : Type 0 where
  pub uid : field 12 (4 + i * 40 + 2) p ≡ u.uid
  pub track : field 14 (4 + i * 40 + 14) p ≡ u.track
  pub pack : field 11 (4 + i * 40 + 28) p ≡ u.pack

unfoldable pub entries_good : ℕ → List Entry → Bool
unfolding pick
entries_good channels [] = true
entries_good channels (e ∷ es) = pick (entry_good channels e) (entries_good channels es) false

-- the track indices of the used entries
unfoldable pub indices : List Entry → List ℕ
indices [] = []
indices (unused ∷ es) = indices es
indices (used u ∷ es) = u.index ∷ indices es

unfoldable pub occurs : ℕ → List ℕ → Bool
unfolding pick
occurs i [] = false
occurs i (j ∷ js) = pick (eqb j i) true (occurs i js)

-- how many different numbers a list has: one counts where it does not occur again
unfoldable pub different : List ℕ → ℕ
unfolding pick
different [] = 0
different (i ∷ is) = pick (occurs i is) (different is) (suc (different is))

-- ---- the record

-- A record whole: "track count and UID count (16 bits each), then N entries".
pub record Whole : Type 0 where
  pub tracks : ℕ
  pub uids : ℕ
  pub entries : List Entry

-- "N at most 1,024"; every entry good; "The UID count is the number of used entries, the track count the number of
-- different indices in them"
unfoldable pub whole_good : ℕ → Whole → Bool
unfolding every
whole_good channels w =
    every
    (leb (length w.entries) 1024
    ∷ entries_good channels w.entries
    ∷ eqb w.uids (length (indices w.entries))
    ∷ eqb w.tracks (different (indices w.entries))
    ∷ [])

-- the record of two counts and the bytes of the entries
unfoldable pub whole_of : ℕ → ℕ → List ℕ → Whole
whole_of tracks uids s = record { tracks = tracks; uids = uids; entries = entries_in s }

-- ---- reading

unfoldable pub whole_in : List ℕ → Whole
whole_in p = whole_of (number 2 0 p) (number 2 2 p) (drop 4 p)

-- "The payload is 4 + 40N"
unfoldable pub length_good : ℕ → Bool
length_good n = leb 4 n && eqb ((n - 4) % 40) 0

-- the record that a payload holds, or 14
unfoldable pub chna_in : ℕ → List ℕ → Answer Whole
unfolding check
chna_in channels p =
    check (length_good (length p)) BadChna
    (check (whole_good channels (whole_in p)) BadChna
    (Ok (whole_in p)))

-- the record by numbers
unfoldable pub numbers_of : Whole → Chna
numbers_of w = record { tracks = w.tracks; uids = w.uids; entries = length w.entries }

-- the reader's answer: the record, whose entries stay in the payload, or the refusal
unfoldable pub read_as : Answer Whole → Answer Chna
read_as (Err r) = Err r
read_as (Ok w) = Ok (numbers_of w)

-- its values: track count, UID count and number of entries, or zeros where it is refused
unfoldable pub chna_values : Answer Chna → List ℕ
chna_values (Ok c) = c.tracks ∷ c.uids ∷ c.entries ∷ []
chna_values (Err r) = replicate 3 0

-- ---- writing

-- 40 bytes of an entry, the pad "written as zero"
unfoldable pub entry_bytes : Entry → List ℕ
entry_bytes unused = replicate 40 0
entry_bytes (used u) = bytes 2 u.index ++ u.uid ++ u.track ++ u.pack ++ (0 ∷ [])

unfoldable pub entries_bytes : List Entry → List ℕ
entries_bytes [] = []
entries_bytes (e ∷ es) = entry_bytes e ++ entries_bytes es

unfoldable pub payload_of : Whole → List ℕ
payload_of w = bytes 2 w.tracks ++ bytes 2 w.uids ++ entries_bytes w.entries

-- the payload of a record, or 16
unfoldable pub chna_out : ℕ → Whole → Answer (List ℕ)
unfolding check
chna_out channels w = check (whole_good channels w) BadRecord (Ok (payload_of w))

-- the same of a record whose entries are given as bytes, 40 for each
unfoldable pub chna_from : ℕ → ℕ → ℕ → List ℕ → Answer (List ℕ)
unfolding check
chna_from channels tracks uids s = check (eqb (length s % 40) 0) BadRecord (chna_out channels (whole_of tracks uids s))

-- ---- pads

-- the first n entries with byte 39 of each as zero, and the rest
unfoldable pub pads_at : ℕ → List ℕ → List ℕ
pads_at zero s = s
pads_at (suc n) s = set (take 40 s) 39 0 ++ pads_at n (drop 40 s)

unfoldable pub pads_off : List ℕ → List ℕ
pads_off s = pads_at (length s / 40) s

-- a payload with its pads as zero: "the file writer zeroes it too"
unfoldable pub pads_zeroed : List ℕ → List ℕ
pads_zeroed p = take 4 p ++ pads_off (drop 4 p)
