-- Document 02, request (vii): the judgement of a listing that is handed in as words beside its file, and what it decides, which
-- proofs/Freshness proves of all bytes and all words.
use Rattle.std.specs.Prelude.{ℕ, ◌+◌, ◌*◌, ◌≤◌, ◌<◌, ◌≡◌, ◌↔◌, ◌⊎◌, List, length, set, get_or}
use Rattle.chunk.specs.declared.Refusal.{Refusal}
use Rattle.chunk.specs.declared.Refusal.TheVariants.{BadFmt, RaggedAudio, StaleListing}
use Rattle.chunk.specs.Refusals.{Answer, Err, Ok, check, and_then, verdict_of}
use Rattle.chunk.specs.Tables.{begins, table_words, tabled, LIMIT}
use Rattle.listing.specs.Listings.{Listing, listing}
use Rattle.fmt.specs.declared.Format.{Format}
use Rattle.wave.specs.Scans.{judged_in, scan}
use Rattle.wave.specs.Code.{examined_as}

-- the listing of a file, if these words begin with its table: "24 .. for a listing that isn't a fresh listing of the given
-- file, and also where the file has no listing"
unfoldable pub fresh_in : List ℕ → Answer Listing → Answer Listing
unfolding check
fresh_in t (Err r) = Err StaleListing
fresh_in t (Ok l) = check (begins (table_words l.rows) t) StaleListing (Ok l)

-- "24, first in the judgement", then checks 11 and 12
unfoldable pub judgement : (file words : List ℕ) → Answer Format
unfolding and_then
judgement s t = and_then (fresh_in t (listing s)) λ l. judged_in l.rows s

-- Words are a fresh listing of a file where it has one, and to store that in them would change none: so the count and each word
-- of each row are the listing's, and no row is missing.
pub record FreshListing (s t : List ℕ) : Type 0 where
  pub listed : Listing
  pub is : listing s ≡ Ok listed
  pub words : t ≡ tabled listed.rows t

-- So of every fresh listing t of a file:
pub record FreshSays (s t : List ℕ) : Type 0 where
  -- its count isn't above 64, and there are words for its rows
  pub count : get_or t 0 0 ≤ LIMIT
  pub enough : 1 + 4 * get_or t 0 0 ≤ length t
  -- with its count or one word of one row another, the mark or any other, it is none
  pub other : (i v : ℕ) → i < 1 + 4 * get_or t 0 0 → (get_or t i 0 ≡ v → ⊥) → FreshListing s (set t i v) → ⊥
  -- with a word past its last row another, it is one still
  pub past : (i v : ℕ) → 1 + 4 * get_or t 0 0 ≤ i → FreshListing s (set t i v)

-- What the judgement decides, of any bytes and any words:
pub record Decides (s t : List ℕ) : Type 0 where
  -- 24 exactly where the words are no fresh listing of the file
  pub stale : (judgement s t ≡ Err StaleListing) ↔ (FreshListing s t → ⊥)
  -- and else 11 and 12 alone
  pub others : (r : Refusal) → judgement s t ≡ Err r → (r ≡ StaleListing) ⊎ (r ≡ BadFmt) ⊎ (r ≡ RaggedAudio)
  -- a fresh listing is judged as the scan judges the file
  pub fresh : FreshListing s t → verdict_of (judgement s t) ≡ verdict_of (scan s)
  -- the inner judgement, for whoever has just listed the file, answers `examined_as s (scan s)`: the two agree
  pub agrees : FreshListing s t → verdict_of (examined_as s (scan s)) ≡ verdict_of (judgement s t)
  -- what listing has stored is fresh, whatever stood in the words
  pub listed : (l : Listing) → listing s ≡ Ok l → FreshListing s (tabled l.rows t)
