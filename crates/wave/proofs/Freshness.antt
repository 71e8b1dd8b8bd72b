-- The judgement of words that are handed in: 24 exactly where they are no fresh listing of the file, and else the judgement of
-- the scan; then the laws for the ways that the code ends.
use mathlib.Core.Path.{◌≡◌, refl, sym, ap, ◌∙◌}
use mathlib.Core.Bool.{Bool, true, false}
use mathlib.Core.Logic.{◌⊎◌, inl, inr}
use mathlib.Core.List.{List, ◌++◌}
use Prim.Native.Nat.{ℕ, ◌+◌, ◌*◌, ◌%◌, ◌<◌}
use native.Mathlib.Omega.{arith}
use lib.ListN.{length, set, drop, get_or}
use lib.Seq.{get_or-set_same}
use lib.Dec.{eqb}
use Rattle.chunk.specs.declared.Entry.{Entry}
use Rattle.chunk.specs.declared.Refusal.{Refusal}
use Rattle.chunk.specs.declared.Refusal.TheVariants.{BadFmt, RaggedAudio, StaleListing}
use Rattle.chunk.specs.Refusals.{Answer, Err, Ok, and_then, verdict_of}
use Rattle.chunk.specs.Names.{FMT, DATA}
use Rattle.chunk.specs.Tables.{find, begins, table_words, tabled}
use Rattle.chunk.specs.Walks.{Walked}
use Rattle.chunk.proofs.Checks.{given-inj, check-true, check-false, and_then-at, and_then-refused, refused-inj, refused-given, check-refused}
use Rattle.chunk.proofs.Begins.{begins-true, true-begins, begins-long, begins-word, begins-past}
use Rattle.chunk.proofs.Filled.{all-length}
use Rattle.fmt.specs.declared.Format.{Format}
use Rattle.fmt.specs.Formats.{format_in}
use Rattle.fmt.proofs.Laws.{only-bad}
use Rattle.listing.specs.declared.Listing as code
use Rattle.listing.specs.Listings.{Listing, headers, listing}
use Rattle.listing.specs.Code.{Fresh}
use Rattle.wave.specs.declared.judgement.Accepted.{Accepted}
use Rattle.wave.specs.Scans.{payload, whole_blocks, judged, judged_in, Scan, scan}
use Rattle.wave.specs.Judgements.{fresh_in, judgement, FreshListing, FreshSays, Decides}
use Rattle.wave.specs.Code.{examined_as}
use Rattle.listing.proofs.Checked.{listing-checked}
use Rattle.listing.proofs.Listings.{keeps}
use Rattle.wave.proofs.Ends.{fresh-headers}
use Rattle.wave.proofs.Judgements.{examined-refused, examined-accepted}

-- ---- words that begin with a table

table-length : (rows : List Entry) → length (table_words rows) ≡ 1 + 4 * length rows
unfolding table_words
table-length rows = omega (arith, all-length rows)

-- are words in which to store it changes nothing
tabled-begins : (rows : List Entry) (t : List ℕ) → t ≡ tabled rows t → begins (table_words rows) t ≡ true
unfolding tabled table_words begins
tabled-begins rows t e =
    ap (begins (table_words rows)) e ∙ true-begins (table_words rows) (drop (1 + 4 * length rows) t)

begins-tabled : (rows : List Entry) (t : List ℕ) → begins (table_words rows) t ≡ true → t ≡ tabled rows t
unfolding tabled table_words
begins-tabled rows t e = begins-true (table_words rows) t e ∙ ap (λ (k : ℕ). table_words rows ++ drop k t) (table-length rows)

-- what was stored stays when it is stored again
tabled-twice : (rows : List Entry) (t : List ℕ) → tabled rows t ≡ tabled rows (tabled rows t)
unfolding tabled table_words
tabled-twice rows t = begins-tabled rows (tabled rows t) (true-begins (table_words rows) (drop (1 + 4 * length rows) t))

-- ---- a fresh listing

module _ (s t : List ℕ) (f : FreshListing s t) where
  abbrev rows : List Entry
  rows = f.listed.rows

  fresh-begins : begins (table_words rows) t ≡ true
  fresh-begins = tabled-begins rows t f.words

  words-length : length (table_words rows) ≡ 1 + 4 * get_or t 0 0
  unfolding table_words
  words-length = omega (arith, all-length rows, begins-word (table_words rows) t fresh-begins 0 (omega arith))

  -- words that begin with the same table are a fresh listing too
  still-fresh : (u : List ℕ) → begins (table_words rows) u ≡ true → FreshListing s u
  still-fresh u e = record { listed = f.listed; is = f.is; words = begins-tabled rows u e }

  pub fresh-says : FreshSays s t
  fresh-says =
      let n = words-length in
      let l = begins-long (table_words rows) t fresh-begins in
      record {
        count = omega (arith, n, (listing-checked s f.listed f.is).few, table-length rows);
        enough = omega (arith, n, l);
        other = λ i v h k g.
            let same : g.listed.rows ≡ rows = ap (λ (x : Listing). x.rows) (given-inj _ _ (sym g.is ∙ f.is)) in
            let e = ap (λ (r : List Entry). begins (table_words r) (set t i v)) (sym same) ∙ tabled-begins g.listed.rows (set t i v) g.words in
            let h' : i < length (table_words rows) = omega (arith, n) in
            k (begins-word (table_words rows) t fresh-begins i h' ∙ sym (begins-word (table_words rows) (set t i v) e i h')
            ∙ get_or-set_same t i v 0 (omega (arith, h', l)));
        past = λ i v h. still-fresh (set t i v) (begins-past (table_words rows) t i v fresh-begins (omega (arith, n)));
      }

-- ---- which refusals the judgement gives

judged-refuses : (rows : List Entry) (s : List ℕ) (r : Refusal) → judged_in rows s ≡ Err r → (r ≡ BadFmt) ⊎ (r ≡ RaggedAudio)
unfolding judged whole_blocks and_then
judged-refuses rows s r e = go (format_in (payload (find FMT rows) s)) refl e
  where
    size : ℕ
    size = (find DATA rows).size

    ragged : (f : Format) → (r ≡ RaggedAudio) ⊎ (Ok f ≡ Err r) → (r ≡ BadFmt) ⊎ (r ≡ RaggedAudio)
    ragged f (inl q) = inr q
    ragged f (inr q) = absurd (refused-given r f (sym q))

    go : (x : Answer Format) → format_in (payload (find FMT rows) s) ≡ x → and_then x (whole_blocks size) ≡ Err r
        → (r ≡ BadFmt) ⊎ (r ≡ RaggedAudio)
    go (Err q) p j = inl (only-bad (payload (find FMT rows) s) r (p ∙ j))
    go (Ok f) p j = ragged f (check-refused (eqb (size % f.block) 0) RaggedAudio (Ok f) r j)

-- ---- fresh or not

module _ (s t : List ℕ) (l : Listing) (e : listing s ≡ Ok l) where
  fresh-judged : begins (table_words l.rows) t ≡ true → judgement s t ≡ judged_in l.rows s
  unfolding judgement fresh_in
  fresh-judged b = and_then-at (fresh_in t (listing s)) _ l (ap (fresh_in t) e ∙ check-true _ _ _ b)

  stale-judged : begins (table_words l.rows) t ≡ false → judgement s t ≡ Err StaleListing
  unfolding judgement fresh_in
  stale-judged b = and_then-refused (fresh_in t (listing s)) _ StaleListing (ap (fresh_in t) e ∙ check-false _ _ _ b)

  -- the scan judges the same
  scan-judged : verdict_of (judged_in l.rows s) ≡ verdict_of (scan s)
  unfolding scan verdict_of and_then
  scan-judged = same (judged_in l.rows s) ∙ sym (ap verdict_of (and_then-at (listing s) _ l e))
    where
      same : (x : Answer Format)
          → verdict_of x ≡ verdict_of {A = Scan} (and_then x λ f. Ok (record { head = l.head; rows = l.rows; format = f }))
      same (Err r) = refl
      same (Ok f) = refl

none-judged : (s t : List ℕ) (r : Refusal) → listing s ≡ Err r → judgement s t ≡ Err StaleListing
unfolding judgement fresh_in
none-judged s t r e = and_then-refused (fresh_in t (listing s)) _ StaleListing (ap (fresh_in t) e)

fmt-stale : BadFmt ≡ StaleListing → ⊥
fmt-stale e = cc

ragged-stale : RaggedAudio ≡ StaleListing → ⊥
ragged-stale e = cc

-- words that aren't fresh, and what the others are judged as
pub decides : (s t : List ℕ) → Decides s t
unfolding examined_as verdict_of
decides s t =
    record {
      stale = (λ e f. absurd (unstale f (refuses f StaleListing e)), λ n. stale n (listing s) refl);
      others = λ r e. all r e (listing s) refl;
      fresh = as-scanned;
      agrees = λ f. inner (scan s) ∙ sym (as-scanned f);
      listed = λ l e. record { listed = l; is = e; words = tabled-twice l.rows t };
    }
  where
    known : (f : FreshListing s t) → judgement s t ≡ judged_in f.listed.rows s
    known f = fresh-judged s t f.listed f.is (fresh-begins s t f)

    as-scanned : FreshListing s t → verdict_of (judgement s t) ≡ verdict_of (scan s)
    as-scanned f = ap verdict_of (known f) ∙ scan-judged s t f.listed f.is

    inner : (x : Answer Scan) → verdict_of (examined_as s x) ≡ verdict_of x
    inner (Err r) = refl
    inner (Ok a) = refl

    refuses : FreshListing s t → (r : Refusal) → judgement s t ≡ Err r → (r ≡ BadFmt) ⊎ (r ≡ RaggedAudio)
    refuses f r e = judged-refuses f.listed.rows s r (sym (known f) ∙ e)

    unstale : FreshListing s t → (StaleListing ≡ BadFmt) ⊎ (StaleListing ≡ RaggedAudio) → ⊥
    unstale f (inl q) = fmt-stale (sym q)
    unstale f (inr q) = ragged-stale (sym q)

    stale : (FreshListing s t → ⊥) → (x : Answer Listing) → listing s ≡ x → judgement s t ≡ Err StaleListing
    stale n (Err r) e = none-judged s t r e
    stale n (Ok l) e = go (begins (table_words l.rows) t) refl
      where
        go : (b : Bool) → begins (table_words l.rows) t ≡ b → judgement s t ≡ Err StaleListing
        go true q = absurd (n (record { listed = l; is = e; words = begins-tabled l.rows t q }))
        go false q = stale-judged s t l e q

    all : (r : Refusal) → judgement s t ≡ Err r → (x : Answer Listing) → listing s ≡ x
        → (r ≡ StaleListing) ⊎ (r ≡ BadFmt) ⊎ (r ≡ RaggedAudio)
    all r j (Err q) e = inl (refused-inj r StaleListing (sym j ∙ none-judged s t q e))
    all r j (Ok l) e = go (begins (table_words l.rows) t) refl
      where
        go : (b : Bool) → begins (table_words l.rows) t ≡ b → (r ≡ StaleListing) ⊎ (r ≡ BadFmt) ⊎ (r ≡ RaggedAudio)
        go true q = inr (judged-refuses l.rows s r (sym (fresh-judged s t l e q) ∙ j))
        go false q = inl (refused-inj r StaleListing (sym j ∙ stale-judged s t l e q))

-- ---- how the code ends

-- the file has no listing
pub judge-none : (s t : List ℕ) (r : Refusal) → listing s ≡ Err r → Err StaleListing ≡ verdict_of (judgement s t)
unfolding verdict_of
judge-none s t r e = sym (ap verdict_of (none-judged s t r e))

-- it has one, and its rows are those of its walk
module _ (s t : List ℕ) (k : code.Listing) (f : Fresh s k) (b : Bool)
    (e : b ≡ begins (table_words (headers k.head s).rows) t) where
  compared : begins (table_words (keeps s k f).listing.rows) t ≡ b
  compared = sym (e ∙ ap (λ (x : Walked). begins (table_words x.rows) t) (fresh-headers s k f))

  -- the words are other ones
  pub judge-stale : b ≡ false → Err StaleListing ≡ verdict_of (judgement s t)
  unfolding verdict_of
  judge-stale q = sym (ap verdict_of (stale-judged s t (keeps s k f).listing (keeps s k f).is (compared ∙ q)))

  -- the words are its table
  as-scan : b ≡ true → verdict_of (judgement s t) ≡ verdict_of (scan s)
  as-scan q =
      let l = keeps s k f in
      ap verdict_of (fresh-judged s t l.listing l.is (compared ∙ q)) ∙ scan-judged s t l.listing l.is

  pub judge-refused : b ≡ true → (r : Refusal) → examined_as s (scan s) ≡ Err r → Err r ≡ verdict_of (judgement s t)
  unfolding verdict_of
  judge-refused q r j = sym (as-scan q ∙ ap verdict_of (examined-refused s (scan s) r j))

  pub judge-accepted : b ≡ true → (n : Accepted) → examined_as s (scan s) ≡ Ok n
      → Ok tt ≡ verdict_of (judgement s t)
  unfolding verdict_of
  judge-accepted q n j = sym (as-scan q ∙ ap verdict_of (examined-accepted s (scan s) n j).is)
