-- What the code alone needs: the judgement of a listing, what is known of an accepted file, and rows stored into words.
use Rattle.std.specs.Prelude.{ℕ, ◌+◌, ◌-◌, ◌*◌, ◌≤◌, ◌≡◌, List, [], ◌∷◌, length, set}
use Rattle.std.proofs.lemmas.List.Edits.{sets}
use Rattle.le.specs.Number.{number, field}
use Rattle.chunk.specs.declared.Entry.{Entry}
use Rattle.chunk.specs.Refusals.{Answer, Err, Ok, Verdict, and_then}
use Rattle.chunk.specs.Names.{DATA}
use Rattle.chunk.specs.Tables.{find, row_words, tabled, LIMIT}
use Rattle.chunk.specs.Walks.{Rule, Walked, walk}
use Rattle.chunk.specs.Code.{header_of}
use Rattle.form.specs.declared.Head.{Head}
use Rattle.form.specs.Code.{place_of}
use Rattle.truesize.specs.Code.{EntriesFit}
use Rattle.fmt.specs.declared.Format.{Format}
use Rattle.listing.specs.declared.Listing as code
use Rattle.wave.specs.declared.judgement.Accepted.{Accepted}
use Rattle.wave.specs.declared.judgement.Surveyed.{Surveyed}
use Rattle.listing.specs.Listings.{Listing, headers}
use Rattle.listing.specs.Code.{payload_of, fact_in, listed_as}
use Rattle.wave.specs.Scans.{Scan, judged}

-- ---- the judgement

-- what checks 11 and 12 say of a listed file
unfoldable pub judge_of : code.Listing → List ℕ → Answer Format
judge_of l s = judged (field l.fmt.size l.fmt.place s) l.audio.size

-- what is known of a listed file with a good format
abbrev pub known_of : code.Listing → Format → Accepted
known_of l f =
    record { head = l.head; first = l.first; audio = l.audio; fact = l.fact; count = l.count; format = f }

-- what the code knows of an accepted file besides its table
unfoldable pub accepted_of : List ℕ → Scan → Accepted
accepted_of s a =
    record {
      head = a.head;
      first = header_of (place_of a.head.form s) s;
      audio = payload_of (find DATA a.rows);
      fact = fact_in a.rows;
      count = length a.rows;
      format = a.format;
    }

-- a listed file, and what 11 and 12 say of it
unfoldable pub surveyed_of : List ℕ → code.Listing → Surveyed
surveyed_of s k = record { listing = k; said = judge_of k s }

-- what checks 1 to 10 say of a file, and of a listed one what 11 and 12 say
unfoldable pub surveyed_as : List ℕ → Answer Listing → Answer Surveyed
unfolding and_then
surveyed_as s x = and_then (listed_as s x) λ k. Ok (surveyed_of s k)

unfoldable pub examined_as : List ℕ → Answer Scan → Answer Accepted
examined_as s (Err r) = Err r
examined_as s (Ok a) = Ok (accepted_of s a)

-- ---- rows into words

-- a walk from byte 12 into words
pub record WalkStored (r : Rule) (s w : List ℕ) (v : Verdict) (w' : List ℕ) : Type 0 where
  pub verdict : v ≡ (walk r s LIMIT 12).end
  pub words : w' ≡ tabled (walk r s LIMIT 12).rows w

-- these rows stored one after the other, from a word on
unfoldable pub rows_from : List ℕ → ℕ → List Entry → List ℕ
rows_from w row [] = w
rows_from w row (e ∷ es) = rows_from (sets w row (row_words e)) (row + 4) es

-- the rest of a walk stored behind rows that are there, and the number of all
pub record Finishes (used : ℕ) (rest : Walked) (w : List ℕ) (v : Verdict) (w' : List ℕ) : Type 0 where
  pub verdict : v ≡ rest.end
  pub words : w' ≡ set (rows_from w (1 + 4 * used) rest.rows) 0 (used + length rest.rows)

-- ---- a listed file, read once more

-- its walk came to the end with so many rows
pub record Ended (h : Head) (s : List ℕ) (n : ℕ) : Type 0 where
  pub fit : EntriesFit h s
  pub end : (headers h s).end ≡ Ok tt
  pub count : n ≡ length (headers h s).rows

-- the chunk whose payload starts at a place, by a rule
pub record EntryAt (r : Rule) (s : List ℕ) (place : ℕ) (e : Entry) : Type 0 where
  pub start : 8 ≤ place
  pub whole : place ≤ length s
  pub stands : e.place ≡ place
  pub named : e.name ≡ number 4 (place - 8) s
  pub sized : r (place - 8) (number 4 (place - 8) s) (number 4 (place - 4) s) ≡ Ok (record { bytes = e.size; source = e.source })
