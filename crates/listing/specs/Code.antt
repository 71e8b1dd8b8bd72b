-- What the code alone needs: what the listing keeps of the chunks in place of their table, and the parts that it is made of.
use Rattle.std.specs.Prelude.{ℕ, zero, suc, ◌+◌, ◌-◌, ◌*◌, ◌/◌, ◌%◌, ◌^◌, ◌≤◌, ◌<◌, ◌≡◌, Bool, not, ◌&&◌, Option, None, Some, List, [], ◌∷◌, length, get_or, eqb, leb, ltb}
use Rattle.le.specs.Number.{number}
use Rattle.le.specs.Choice.{pick, every}
use Rattle.chunk.specs.declared.Entry.{Entry}
use Rattle.chunk.specs.declared.Header.{Header}
use Rattle.chunk.specs.declared.Refusal.{Refusal}
use Rattle.chunk.specs.declared.Refusal.TheVariants.{BadChunkSet, CutHeader}
use Rattle.chunk.specs.Refusals.{Answer, Verdict, Err, Ok, check}
use Rattle.chunk.specs.Names.{FMT, DATA, FACT, BEXT, CHNA}
use Rattle.chunk.specs.Fields.{ONES}
use Rattle.chunk.specs.Tables.{count, find}
use Rattle.chunk.specs.Walks.{Rule, Walked, walk}
use Rattle.chunk.specs.Code.{header_of, Due}
use Rattle.form.specs.declared.Head.{Head}
use Rattle.form.specs.declared.Start.{Start}
use Rattle.form.specs.Forms.{head_of}
use Rattle.form.specs.Code.{place_of, room_of}
use Rattle.truesize.specs.Sizes.{true_size, entries_of}
use Rattle.listing.specs.declared.Payload.{Payload}
use Rattle.listing.specs.declared.tally.Tally.{Tally}
use Rattle.listing.specs.declared.headers.Passed.{Passed}
use Rattle.listing.specs.declared.headers.Noted.{Noted}
use Rattle.listing.specs.declared.Listing as code
use Rattle.listing.specs.Listings.{Listing, listing}

-- ---- the tally

unfoldable pub payload_of : Entry → Payload
payload_of e = record { place = e.place; size = e.size }

-- what is kept of a name after one chunk more: it changes where the chunk has the name
unfoldable pub changes {ℓ} : {X : Type ℓ} → ℕ → Entry → X → X → X
unfolding pick
changes name e new old = pick (eqb e.name name) new old

-- one chunk of a name counts so much, and others nothing
unfoldable pub counts : ℕ → ℕ → Entry → ℕ
counts name n e = changes name e n 0

-- a fact counts once, and twice where it is below 4 bytes
unfoldable pub heavy : Entry → ℕ
unfolding pick
heavy e = pick (ltb e.size 4) 2 1

-- the five counts in one number, eight bits each: what a chunk adds to it
unfoldable pub weight : Entry → ℕ
weight e =
    counts FMT 1 e
    + 2 ^ 8 * counts DATA 1 e
    + 2 ^ 16 * counts FACT (heavy e) e
    + 2 ^ 24 * counts BEXT 1 e
    + 2 ^ 32 * counts CHNA 1 e

unfoldable pub noted : Tally → Entry → Tally
noted t e =
    record {
      met = t.met + weight e;
      fmt = changes FMT e (payload_of e) t.fmt;
      audio = changes DATA e (payload_of e) t.audio;
      fact = changes FACT e (Some e.place) t.fact;
    }

unfoldable pub all_noted : Tally → List Entry → Tally
all_noted t [] = t
all_noted t (e ∷ es) = all_noted (noted t e) es

unfoldable pub no_tally : Tally
no_tally = record { met = 0; fmt = record { place = 0; size = 0 }; audio = record { place = 0; size = 0 }; fact = None }

-- the counts of a tally are not near 2 ^ 64
pub record Small (t : Tally) : Type 0 where
  pub met : t.met < 2 ^ 48

-- check 10 of a tally: one fmt and one data, fmt first, and at most one of each other
unfoldable pub tally_good : Tally → Bool
unfolding every
tally_good t =
    every
    (eqb (t.met % 2 ^ 16) (1 + 2 ^ 8)
    ∷ ltb t.fmt.place t.audio.place
    ∷ leb (t.met / 2 ^ 24 % 2 ^ 8) 1
    ∷ leb (t.met / 2 ^ 32) 1
    ∷ leb (t.met / 2 ^ 16 % 2 ^ 8) 1
    ∷ [])

-- ---- the walk

-- The end of the file, or nearer: from a place on, no chunk whose field is all ones would end by there, were that its size.
-- Any nearer end will do: it changes how long the walk takes, and no answer.
pub record Near (len place near : ℕ) : Type 0 where
  pub inside : near ≤ len
  pub close : near ≤ place + ONES

-- where the next chunk's payload starts, if a chunk's field is its size
unfoldable pub next_of : ℕ → List ℕ → ℕ
next_of place s = place + number 4 (place - 4) s + number 4 (place - 4) s % 2 + 8

-- a chunk that no rule asks for, with a whole header after it: its name starts with none of b to f
unfoldable pub passes : (near place : ℕ) → List ℕ → Bool
unfolding every
passes near place s =
    every (not (leb 98 (get_or s (place - 8) 0) && leb (get_or s (place - 8) 0) 102) ∷ leb (next_of place s) near ∷ [])

unfoldable pub passed_from : (s : List ℕ) (near room place : ℕ) → Passed
unfolding pick
passed_from s near zero place = record { place = place; room = 0 }
passed_from s near (suc room) place =
    pick (passes near place s) (passed_from s near room (next_of place s)) (record { place = place; room = suc room })

-- a whole header ahead of a place, and what is near there
pub record Nears (s : List ℕ) (near place : ℕ) : Type 0 where
  pub due : Due s place
  pub end : Near (length s) place near

abbrev pub rule : Head → List ℕ → Rule
rule h s = true_size h (entries_of h s)

-- the walk past ds64
abbrev pub rest_of : Start → List ℕ → Walked
rest_of o s = walk (rule o.head s) s o.room (o.place - 8)

-- a good head, and a whole header past ds64
pub record Begins (s : List ℕ) (o : Start) : Type 0 where
  pub head : head_of s ≡ Ok o.head
  pub place : o.place ≡ place_of o.head.form s
  pub room : o.room ≡ room_of o.head.form
  pub whole : o.place ≤ length s

-- what a walk to the end has noted
unfoldable pub tally_as : Header → ℕ → Tally → Walked → Answer Noted
tally_as first n t w = ended w.end
  where
    ended : Verdict → Answer Noted
    ended (Ok a) = Ok (record { tally = all_noted t w.rows; first = first; count = n + length w.rows })
    ended (Err r) = Err r

-- ---- the listing

-- where fact's payload starts, if there is a fact
unfoldable pub fact_in : List Entry → Option ℕ
unfolding pick
fact_in rows = pick (eqb (count FACT rows) 0) None (Some (find FACT rows).place)

-- what the code keeps of a listing
unfoldable pub kept_of : List ℕ → Listing → code.Listing
kept_of s l =
    record {
      head = l.head;
      first = header_of (place_of l.head.form s) s;
      fmt = payload_of (find FMT l.rows);
      audio = payload_of (find DATA l.rows);
      fact = fact_in l.rows;
      count = length l.rows;
    }

unfoldable pub listed_as : List ℕ → Answer Listing → Answer code.Listing
listed_as s (Err r) = Err r
listed_as s (Ok l) = Ok (kept_of s l)

-- what is kept of a listing is what the listing of this file finds now
abbrev pub Fresh : List ℕ → code.Listing → Type 0
Fresh s k = listed_as s (listing s) ≡ Ok k

-- check 10
unfoldable pub chunks_as : Head → Noted → Answer code.Listing
unfolding check
chunks_as h n =
    check (tally_good n.tally) BadChunkSet
    (Ok
    (record {
      head = h;
      first = n.first;
      fmt = n.tally.fmt;
      audio = n.tally.audio;
      fact = n.tally.fact;
      count = n.count;
    }))

-- no whole header past ds64
unfoldable pub bare_as : ℕ → ℕ → Refusal
unfolding pick
bare_as len end = pick (eqb end len) BadChunkSet CutHeader
