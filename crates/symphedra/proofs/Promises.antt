-- The customer's demands for the C functions: what each relation says of the number that a function returns, and then the
-- theorems over the definitions.
-- Assumes nothing.
use mathlib.Core.Path.{◌≡◌, refl, sym, ◌∙◌, ap, subst}
use mathlib.Core.Logic.{◌↔◌, ◌⊎◌, inl, inr}
use mathlib.Core.Bool.{Bool, true, false}
use mathlib.Core.List.{List, [], ◌∷◌, Memᴰ}
use Prim.Native.Nat.{ℕ, ◌≤◌, ◌<◌, ◌*◌, ◌^◌, ◌+◌}
use native.Mathlib.Omega.{arith}
use lib.ListN.{length, take, get_or, length-take, replicate}
use lib.Seq.{sets}
use lib.Dec.{eqb, leb}
use borrow.Author.Tests.{le-leb, eqb-true}
use Rattle.std.proofs.Common.{Option}
use Rattle.le.specs.Number.{Bytes}
use Rattle.le.specs.Choice.{pick}
use Rattle.chunk.specs.declared.Entry.{Entry}
use Rattle.chunk.specs.declared.Source.{Source}
use Rattle.chunk.specs.declared.Source.TheVariants.{Own, DataSize, EntryAt}
use Rattle.chunk.specs.declared.Refusal.{Refusal}
use Rattle.chunk.specs.declared.Refusal.TheVariants.{BadFmt, RaggedAudio, BadRecord, ShortOutput, StaleListing}
use Rattle.chunk.specs.Refusals.{refusal_number, number_of, verdict_of, Answer, Err, Ok}
use Rattle.chunk.specs.Names.{DATA}
use Rattle.chunk.specs.Sources.{source_number, source_of}
use Rattle.chunk.specs.Tables.{all_words, tabled, row_in, WORDS}
use Rattle.chunk.specs.Walks.{Walked}
use Rattle.chunk.specs.Writes.{written_of}
use Rattle.chunk.proofs.Checks.{given-inj, refused-inj, refused-given, pick_true, check-given, check-true}
use Rattle.chunk.proofs.Sources.{source-back, number-back}
use Rattle.chunk.proofs.Laid.{row-size}
use Rattle.chunk.proofs.Filled.{table-row}
use Rattle.chunk.proofs.Outputs.{puts-front}
use Rattle.form.specs.declared.Form.{Form}
use Rattle.form.specs.declared.Ds64.{Ds64}
use Rattle.form.specs.declared.Form.TheVariants.{Riff}
use Rattle.fmt.specs.declared.Format.{Format}
use Rattle.fmt.specs.Writing.{format_out}
use Rattle.fmt.proofs.RoundTrip.{reads-back as fmt-reads-back, writes-back as fmt-writes-back}
use Rattle.fmt.specs.Formats.{format_in, fmt_values}
use Rattle.bext.specs.declared.Bext.{Bext}
use Rattle.bext.specs.Records.{Whole, bext_in, numbers_of, read_as as bextRead, bext_values}
use Rattle.bext.specs.Slices.{parts_in}
use Rattle.bext.proofs.RoundTrip.{reads-back as bext-reads-back, writes-back as bext-writes-back}
use Rattle.bext.proofs.Held.{parts_are, accepted-long, stand}
use Rattle.chna.specs.declared.Chna.{Chna}
use Rattle.chna.proofs.RoundTrip.{bytes-read-back as chna-reads-back, read-then-written as chna-again-out}
use Rattle.chna.proofs.Pads.{zeroed-length}
use Rattle.chna.specs.Records.{chna_in, pads_zeroed, read_as as chnaRead, chna_values, whole_of}
use Rattle.truesize.specs.Sizes.{Ds64Entry, entries_of}
use Rattle.truesize.specs.Told.{Marks}
use Rattle.listing.specs.Listings.{Listing, listing}
use Rattle.wave.specs.Scans.{Scan, listing_of, scan, rows_of, listed_rows, walk32}
use Rattle.wave.specs.Judgements.{judgement, FreshListing}
use Rattle.wave.specs.Tables.{own_field}
use Rattle.wave.specs.Demand3.{SaysOwn}
use Rattle.wave.specs.Grammar.{GoodShape, GoodFile, ListsExactly, AcceptsExactly}
use Rattle.wave.proofs.Tables.{list-tables}
use Rattle.wave.proofs.Scanned.{scan-listed}
use Rattle.wave.proofs.Judgements.{scan-listing}
use Rattle.wave.proofs.Freshness.{fresh-says, decides}
use Rattle.wave.proofs.FirstHalf.{says-own, list-half, first-half}
use Rattle.wave.proofs.AcceptsExactly.{lists-exactly, accepts-exactly}
use Rattle.samples.specs.Counts.{samples_of, samples_values}
use Rattle.upgrade.specs.declared.Target.{Target}
use Rattle.upgrade.specs.Upgrades.{upgraded}
use Rattle.upgrade.specs.Words.{file_after}
use Rattle.upgrade.specs.Demand3 as upgrade
use Rattle.upgrade.specs.Demand3.{Reserved, ahead_of, Upgraded}
use Rattle.upgrade.proofs.Demand3.{second-half}
use Rattle.file.specs.Files.{file_out}
use Rattle.writer.specs.WayBack.{WayBack, table_for}
use Rattle.writer.proofs.WayBack.{way_back}
use Rattle.words.specs.Answers.{Answers, counted}
use Rattle.words.proofs.Numbers.{refusal-number, accepted}
use Rattle.words.proofs.Answered.{enough, too_few, good}
use Rattle.words.proofs.Written.{refused-out, wrote-out, writes-given}
use Rattle.records.specs.Reading.{ReadsFmt, ReadsBext, PartsOf, places_of, parts_values, entry_values}
use Rattle.records.specs.Writing.{format_of, of_nine, WritesFmt, WritesBext, WritesChna}
use Rattle.chna.proofs.Entries.{entry-of-record, entry_stands}
use Rattle.chna_entry.specs.Entries as chna-entry
use Rattle.symphedra.specs.Exports.{Lists, Judges, Scans, Walks32, Upgrades, file_of, WritesFile}
use Rattle.symphedra.specs.Promises.{Numbered, Promise1, written_in, FourthWord, InTurn, Promise2, WalkPromise, UpgradePromise, Promise3}

-- ---- demand 1

numbered-answer : (least n : ℕ) (new w : List ℕ) (r : ℕ) (w' : List ℕ) → Numbered n → Answers least n new w r w' → Numbered r
unfolding Numbered pick
numbered-answer least n new w r w' h a = cases (leb least (length w)) h a.returns
  where
    cases : (b : Bool) → Numbered n → r ≡ pick b n 15 → Numbered r
    cases true (inl e) f = inl (f ∙ e)
    cases true (inr (x, e)) f = inr (x, f ∙ e)
    cases false h f = inr (ShortOutput, f)

numbered : {A : Type 0} (x : Answer A) → Numbered (number_of x)
unfolding Numbered
numbered (Ok a) = inl refl
numbered (Err x) = inr (x, refl)

numbered-as : (r n : ℕ) → r ≡ n → Numbered n → Numbered r
numbered-as r n e h = subst Numbered (sym e) h

-- a refused scan has no row
no_rows : (x : Answer Scan) (w : List ℕ) (r : ℕ) → WORDS ≤ length w → r ≡ number_of (verdict_of x) → (r ≡ 0 → ⊥)
    → tabled (rows_of x) w ≡ sets w 0 (0 ∷ [])
unfolding verdict_of rows_of tabled all_words
no_rows (Err q) [] r l e h = absurd (omega (arith, l))
no_rows (Err q) (v ∷ w) r l e h = refl
no_rows (Ok a) w r l e h = absurd (h e)

-- nor has a refused listing
no_list : (x : Answer Listing) (w : List ℕ) (r : ℕ) → WORDS ≤ length w → r ≡ number_of (verdict_of x) → (r ≡ 0 → ⊥)
    → tabled (listed_rows x) w ≡ sets w 0 (0 ∷ [])
unfolding verdict_of listed_rows tabled all_words
no_list (Err q) [] r l e h = absurd (omega (arith, l))
no_list (Err q) (v ∷ w) r l e h = refl
no_list (Ok a) w r l e h = absurd (h e)

-- a refused count or reader has zeros
zeros-samples : (x : Answer (Option ℕ)) (r : ℕ) → r ≡ number_of x → (r ≡ 0 → ⊥) → samples_values x ≡ replicate 2 0
unfolding samples_values
zeros-samples (Ok n) r e h = absurd (h e)
zeros-samples (Err x) r e h = refl

zeros-fmt : (x : Answer Format) (r : ℕ) → r ≡ number_of x → (r ≡ 0 → ⊥) → fmt_values x ≡ replicate 9 0
unfolding fmt_values
zeros-fmt (Ok f) r e h = absurd (h e)
zeros-fmt (Err x) r e h = refl

zeros-bext : (x : Answer Bext) (r : ℕ) → r ≡ number_of x → (r ≡ 0 → ⊥) → bext_values x ≡ replicate 8 0
unfolding bext_values
zeros-bext (Ok f) r e h = absurd (h e)
zeros-bext (Err x) r e h = refl

zeros-chna : (x : Answer Chna) (r : ℕ) → r ≡ number_of x → (r ≡ 0 → ⊥) → chna_values x ≡ replicate 3 0
unfolding chna_values
zeros-chna (Ok f) r e h = absurd (h e)
zeros-chna (Err x) r e h = refl

kept : (x : Answer (List ℕ)) (s : List ℕ) (r : ℕ) → r ≡ number_of (verdict_of x) → (r ≡ 0 → ⊥) → file_after s x ≡ s
unfolding verdict_of file_after
kept (Err q) s r e h = refl
kept (Ok u) s r e h = absurd (h e)

pub promise-1 : Promise1
promise-1 =
    record {
      scan_numbered = λ s w r w' a. numbered-answer _ _ _ _ _ _ (numbered (verdict_of (scan s))) a;
      list_numbered = λ s w r w' a. numbered-answer _ _ _ _ _ _ (numbered (verdict_of (listing s))) a;
      judge_numbered = λ s w r a. numbered-as r _ a (numbered (verdict_of (judgement s w)));
      walk_numbered = λ s w r w' a. numbered-answer _ _ _ _ _ _ (numbered (walk32 s).end) a;
      count_numbered = λ s w r w' a. numbered-answer _ _ _ _ _ _ (numbered (samples_of s)) a;
      upgrade_numbered = λ t s r u a. numbered-as r _ a.number (numbered (verdict_of (upgraded t s)));
      fmt_numbered = λ p w r w' a. numbered-answer _ _ _ _ _ _ (numbered (format_in p)) a;
      bext_numbered = λ p w r w' a. numbered-answer _ _ _ _ _ _ (numbered (bextRead (bext_in p))) a;
      chna_numbered = λ channels p w r w' a. numbered-answer _ _ _ _ _ _ (numbered (chnaRead (chna_in channels p))) a;
      parts_numbered = λ p w r w' a. numbered-answer _ _ _ _ _ _ (numbered {A = ℕ} (Ok 0)) a;
      entry_numbered = λ i p w r w' a. numbered-answer _ _ _ _ _ _ (numbered {A = ℕ} (Ok 0)) a;
      write_numbered = λ a out w r out' w' t. numbered-as r _ t.number (numbered (written_of (counted out w a)));
      scan_refused = λ s w r w' l a h. let e = enough _ _ _ w r w' l a in e.1 ∙ no_rows (scan s) w r l e.0 h;
      list_refused = λ s w r w' l a h. let e = enough _ _ _ w r w' l a in e.1 ∙ no_list (listing s) w r l e.0 h;
      count_refused = λ s w r w' l a h. let e = enough _ _ _ w r w' l a in e.1 ∙ ap (sets w 0) (zeros-samples _ r e.0 h);
      fmt_refused = λ p w r w' l a h. let e = enough _ _ _ w r w' l a in e.1 ∙ ap (sets w 0) (zeros-fmt _ r e.0 h);
      bext_refused = λ p w r w' l a h. let e = enough _ _ _ w r w' l a in e.1 ∙ ap (sets w 0) (zeros-bext _ r e.0 h);
      chna_refused = λ channels p w r w' l a h. let e = enough _ _ _ w r w' l a in e.1 ∙ ap (sets w 0) (zeros-chna _ r e.0 h);
      upgrade_refused = λ t s r u a h. a.bytes ∙ kept (upgraded t s) s r a.number h;
      write_refused = refused-out;
      too_few = too_few;
    }

-- a scan that returns 0
record Scanned (s w w' : List ℕ) : Type 0 where
  by : Scan
  is : scan s ≡ Ok by
  table : w' ≡ tabled by.rows w

scanned : (s w w' : List ℕ) → Scans s w 0 w' → Scanned s w w'
unfolding rows_of
scanned s w w' a =
    let g = good _ _ _ w w' a in
    let x = accepted (scan s) g.number in
    record { by = x.0; is = x.1; table = g.words ∙ ap (λ (y : Answer Scan). tabled (rows_of y) w) x.1 }

-- the table is that of the scan, which is one
scan-table : (s w w' : List ℕ) (a : Scan) → Scans s w 0 w' → scan s ≡ Ok a → w' ≡ tabled a.rows w
scan-table s w w' a h e =
    let x = scanned s w w' h in
    x.table ∙ ap (λ (y : Scan). tabled y.rows w) (given-inj _ _ (sym x.is ∙ e))

-- what a scan returns of a file that is known to be accepted, and a walk of what is known of it
scan-is : (s v : List ℕ) (q : ℕ) (v' : List ℕ) (a : Scan) → scan s ≡ Ok a → WORDS ≤ length v → Scans s v q v'
    → (q ≡ 0) × (v' ≡ tabled a.rows v)
unfolding rows_of verdict_of
scan-is s v q v' a e l h =
    let g = enough _ _ _ v q v' l h in
    (g.0 ∙ ap (λ (y : Answer Scan). number_of (verdict_of y)) e, g.1 ∙ ap (λ (y : Answer Scan). tabled (rows_of y) v) e)

-- the same of a listing
record Listed (s w w' : List ℕ) : Type 0 where
  by : Listing
  is : listing s ≡ Ok by
  table : w' ≡ tabled by.rows w

listed-by : (s w w' : List ℕ) → Lists s w 0 w' → Listed s w w'
unfolding listed_rows
listed-by s w w' a =
    let g = good _ _ _ w w' a in
    let x = accepted (listing s) g.number in
    record { by = x.0; is = x.1; table = g.words ∙ ap (λ (y : Answer Listing). tabled (listed_rows y) w) x.1 }

list-table : (s w w' : List ℕ) (l : Listing) → Lists s w 0 w' → listing s ≡ Ok l → w' ≡ tabled l.rows w
list-table s w w' l h e =
    let x = listed-by s w w' h in
    x.table ∙ ap (λ (y : Listing). tabled y.rows w) (given-inj _ _ (sym x.is ∙ e))

list-is : (s v : List ℕ) (q : ℕ) (v' : List ℕ) (l : Listing) → listing s ≡ Ok l → WORDS ≤ length v → Lists s v q v'
    → (q ≡ 0) × (v' ≡ tabled l.rows v)
unfolding listed_rows verdict_of
list-is s v q v' a e l h =
    let g = enough _ _ _ v q v' l h in
    (g.0 ∙ ap (λ (y : Answer Listing). number_of (verdict_of y)) e, g.1 ∙ ap (λ (y : Answer Listing). tabled (listed_rows y) v) e)

-- ---- demand 2

accepts : (s w : List ℕ) (r : ℕ) (w' : List ℕ) → Bytes s → WORDS ≤ length w → Scans s w r w' → (r ≡ 0) ↔ ((a : Scan) × GoodFile s a)
unfolding AcceptsExactly
accepts s w r w' b l h = (
  (λ z. let x = scanned s w w' (subst (λ (n : ℕ). Scans s w n w') z h) in (x.by, (accepts-exactly s b x.by).0 x.is)),
  (λ g. (scan-is s w r w' g.0 ((accepts-exactly s b g.0).1 g.1) l h).0),
)

lists : (s w : List ℕ) (r : ℕ) (w' : List ℕ) → Bytes s → WORDS ≤ length w → Lists s w r w' → (r ≡ 0) ↔ ((l : Listing) × GoodShape s l)
unfolding ListsExactly
lists s w r w' b l h = (
  (λ z. let x = listed-by s w w' (subst (λ (n : ℕ). Lists s w n w') z h) in (x.by, (lists-exactly s b x.by).0 x.is)),
  (λ g. (list-is s w r w' g.0 ((lists-exactly s b g.0).1 g.1) l h).0),
)

-- ---- both in turn

module _ (s w : List ℕ) (p q : ℕ) (u : List ℕ) (l : WORDS ≤ length w) (h : Lists s w p u) (j : Judges s u q) where
  -- what the listing has stored is fresh, so the judgement ends as the scan does
  judged-scan : p ≡ 0 → q ≡ number_of (verdict_of (scan s))
  judged-scan z =
      let x = listed-by s w u (subst (λ (n : ℕ). Lists s w n u) z h) in
      let f = (decides s w).listed x.by x.is in
      j ∙ ap (λ (t : List ℕ). number_of (verdict_of (judgement s t))) x.table
      ∙ ap number_of ((decides s (tabled x.by.rows w)).fresh f)

  turn : (r : ℕ) (w' : List ℕ) → Scans s w r w' → InTurn r p q w' u
  unfolding verdict_of
  turn r w' a =
      let e = enough _ _ _ w r w' l a in
      let d = enough _ _ _ w p u l h in
      record {
        first = λ n. e.0 ∙ refused-same (listing s) refl (λ z. n (d.0 ∙ z)) ∙ sym d.0;
        then = λ z. e.0 ∙ sym (judged-scan z);
        table = λ z.
            let x = scanned s w w' (subst (λ (n : ℕ). Scans s w n w') z a) in
            let k = list-is s w p u (listing_of x.by) (scan-listed s x.by x.is) l h in
            x.table ∙ sym k.1;
      }
    where
      refused-same : (x : Answer Listing) → listing s ≡ x → (number_of (verdict_of x) ≡ 0 → ⊥)
          → number_of (verdict_of (scan s)) ≡ number_of (verdict_of x)
      refused-same (Err y) e n = ap (λ (z : Answer Scan). number_of (verdict_of z)) (scan-listing s y e)
      refused-same (Ok y) e n = absurd (n refl)

  both : Bytes s → ((p ≡ 0) × (q ≡ 0)) ↔ ((a : Scan) × GoodFile s a)
  unfolding AcceptsExactly verdict_of
  both b = (
    (λ z. let x = accepted (scan s) (sym (judged-scan z.0) ∙ z.1) in (x.0, (accepts-exactly s b x.0).0 x.1)),
    (λ g.
        let e = (accepts-exactly s b g.0).1 g.1 in
        let k = list-is s w p u (listing_of g.0) (scan-listed s g.0 e) l h in
        (k.0, judged-scan k.0 ∙ ap (λ (x : Answer Scan). number_of (verdict_of x)) e)),
  )

-- ---- 24

judge-number : (x : Answer Format) → (r : ℕ) → r ≡ number_of (verdict_of x)
    → ((y : Refusal) → x ≡ Err y → (y ≡ StaleListing) ⊎ (y ≡ BadFmt) ⊎ (y ≡ RaggedAudio))
    → ((r ≡ 0) ⊎ (r ≡ 24) ⊎ (r ≡ 11) ⊎ (r ≡ 12)) × ((r ≡ 24) ↔ (x ≡ Err StaleListing))
unfolding verdict_of
judge-number (Ok f) r e k = (inl e, ((λ z. absurd (omega (arith, e, z))), λ z. absurd (refused-given StaleListing f (sym z))))
judge-number (Err y) r e k = go (k y refl)
  where
    number : (z : Refusal) → y ≡ z → r ≡ refusal_number z
    number z p = e ∙ ap refusal_number p

    other : (z : Refusal) → y ≡ z → (refusal_number z ≡ 24 → ⊥) → (r ≡ 24) ↔ (◌≡◌ {A = Answer Format} (Err y) (Err StaleListing))
    other z p n = (
      (λ q. absurd (n (sym (number z p) ∙ q))),
      (λ q. absurd (n (sym (ap refusal_number p) ∙ ap refusal_number (refused-inj y StaleListing q)))),
    )

    go : (y ≡ StaleListing) ⊎ (y ≡ BadFmt) ⊎ (y ≡ RaggedAudio)
        → ((r ≡ 0) ⊎ (r ≡ 24) ⊎ (r ≡ 11) ⊎ (r ≡ 12)) × ((r ≡ 24) ↔ (◌≡◌ {A = Answer Format} (Err y) (Err StaleListing)))
    go (inl p) = (inr (inl (number StaleListing p)), ((λ q. ap Err p), λ q. number StaleListing p))
    go (inr (inl p)) = (inr (inr (inl (number BadFmt p))), other BadFmt p (λ z. omega (arith, z)))
    go (inr (inr p)) = (inr (inr (inr (number RaggedAudio p))), other RaggedAudio p (λ z. omega (arith, z)))

judges : (s w : List ℕ) (r : ℕ) → Judges s w r → ((r ≡ 0) ⊎ (r ≡ 24) ⊎ (r ≡ 11) ⊎ (r ≡ 12)) × ((r ≡ 24) ↔ (judgement s w ≡ Err StaleListing))
judges s w r j = judge-number (judgement s w) r j (decides s w).others

stale : (s w : List ℕ) (r : ℕ) → Judges s w r → (r ≡ 24) ↔ (FreshListing s w → ⊥)
stale s w r j =
    let k = (judges s w r j).1 in
    let d = (decides s w).stale in
    ((λ z. d.0 (k.0 z)), λ n. k.1 (d.1 n))

-- nine words are their format record's
nine_words : (w : List ℕ) → length w ≡ 9 → fmt_values (Ok (format_of w)) ≡ w
unfolding fmt_values format_of
nine_words ([]) l = absurd (omega (arith, l))
nine_words (a ∷ []) l = absurd (omega (arith, l))
nine_words (a ∷ b ∷ []) l = absurd (omega (arith, l))
nine_words (a ∷ b ∷ c ∷ []) l = absurd (omega (arith, l))
nine_words (a ∷ b ∷ c ∷ d ∷ []) l = absurd (omega (arith, l))
nine_words (a ∷ b ∷ c ∷ d ∷ e ∷ []) l = absurd (omega (arith, l))
nine_words (a ∷ b ∷ c ∷ d ∷ e ∷ f ∷ []) l = absurd (omega (arith, l))
nine_words (a ∷ b ∷ c ∷ d ∷ e ∷ f ∷ g ∷ []) l = absurd (omega (arith, l))
nine_words (a ∷ b ∷ c ∷ d ∷ e ∷ f ∷ g ∷ h ∷ []) l = absurd (omega (arith, l))
nine_words (a ∷ b ∷ c ∷ d ∷ e ∷ f ∷ g ∷ h ∷ i ∷ []) l = refl
nine_words (a ∷ b ∷ c ∷ d ∷ e ∷ f ∷ g ∷ h ∷ i ∷ j ∷ k) l = absurd (omega (arith, l))

module _ (f out w out' w' : List ℕ) (h : WritesFmt f out w 0 out' w') where
  fmt-given : (eqb (length f) 9 ≡ true) × (format_out (format_of f) ≡ Ok (written_in out' w'))
  unfolding of_nine written_in
  fmt-given = check-given _ _ _ _ (wrote-out _ out w out' w' h).is_given

  fmt_back : (v : List ℕ) (r : ℕ) (v' : List ℕ) → 9 ≤ length v → ReadsFmt (written_in out' w') v r v' → (r ≡ 0) × (v' ≡ sets v 0 f)
  fmt_back v r v' l k =
      let g = enough _ _ _ v r v' l k in
      let e = fmt-reads-back (format_of f) (written_in out' w') fmt-given.1 in (
        g.0 ∙ ap (λ (x : Answer Format). number_of x) e,
        g.1 ∙ ap (λ (x : Answer Format). sets v 0 (fmt_values x)) e ∙ ap (sets v 0) (nine_words f (eqb-true (length f) 9 fmt-given.0)),
      )

module _ (b : Whole) (out w out' w' : List ℕ) (h : WritesBext b out w 0 out' w') where
  bext_back : bext_in (written_in out' w') ≡ Ok b
  unfolding written_in
  bext_back = bext-reads-back b _ (wrote-out _ out w out' w' h).is_given

  bext_words : (v : List ℕ) (r : ℕ) (v' : List ℕ) → 8 ≤ length v → ReadsBext (written_in out' w') v r v'
      → (r ≡ 0) × (v' ≡ sets v 0 (bext_values (Ok (numbers_of b))))
  unfolding bextRead
  bext_words v r v' l k =
      let g = enough _ _ _ v r v' l k in (
        g.0 ∙ ap (λ (x : Answer Whole). number_of (bextRead x)) bext_back,
        g.1 ∙ ap (λ (x : Answer Whole). sets v 0 (bext_values (bextRead x))) bext_back,
      )

  bext_parts : (v : List ℕ) (r : ℕ) (v' : List ℕ) → 14 ≤ length v → PartsOf (written_in out' w') v r v'
      → (r ≡ 0) × (v' ≡ sets v 0 (places_of b)) × (parts_in (written_in out' w') ≡ b)
  unfolding parts_values
  bext_parts v r v' l k =
      let g = enough _ _ _ v r v' l k in
      let p : List ℕ = written_in out' w' in
      let same : parts_in p ≡ b = parts_are p b bext_back in (
        g.0,
        g.1
            ∙ ap (sets v 0) (pick_true (leb 602 (length p)) _ _ (le-leb 602 (length p) (accepted-long p b bext_back)))
            ∙ ap (λ (x : Whole). sets v 0 (places_of x)) same,
        same,
      )

-- what a fmt reader that returns 0 leaves is its record's words
module _ (p v v' : List ℕ) (h : ReadsFmt p v 0 v') where
  fmt-read : (f : Format) × (format_in p ≡ Ok f)
  fmt-read = cases (format_in p) refl (good _ _ _ v v' h).number
    where
      cases : (x : Answer Format) → format_in p ≡ x → number_of x ≡ 0 → (f : Format) × (format_in p ≡ Ok f)
      cases (Err q) e z = absurd (omega (arith, z, refusal-number q))
      cases (Ok f) e z = (f, e)

  fmt-words : take 9 v' ≡ fmt_values (Ok fmt-read.0)
  unfolding fmt_values
  fmt-words =
      let g = good _ _ _ v v' h in
      ap (take 9) (g.words ∙ ap (λ (x : Answer Format). sets v 0 (fmt_values x)) fmt-read.1 ∙ puts-front v (fmt_values (Ok fmt-read.0)) g.long)

  fmt-record : format_of (take 9 v') ≡ fmt-read.0
  unfolding format_of fmt_values
  fmt-record = ap format_of fmt-words

  fmt_again : (out w : List ℕ) (r : ℕ) (out' w' : List ℕ) → Bytes p
      → (format_of (take 9 v')).byterate ≡ (format_of (take 9 v')).rate * (format_of (take 9 v')).block
      → length p ≤ length out → 1 ≤ length w → WritesFmt (take 9 v') out w r out' w' → (r ≡ 0) × (written_in out' w' ≡ p)
  unfolding of_nine fmt_values written_in
  fmt_again out w r out' w' b product room word t =
      let f = fmt-read.0 in
      let rate : f.byterate ≡ f.rate * f.block = subst (λ (x : Format). x.byterate ≡ x.rate * x.block) fmt-record product in
      let all : of_nine (take 9 v') format_out ≡ Ok p =
      check-true (eqb (length (take 9 v')) 9) BadRecord _ (ap (λ (l : List ℕ). eqb (length l) 9) fmt-words)
      ∙ ap format_out fmt-record
      ∙ fmt-writes-back p f b fmt-read.1 rate in
      writes-given _ p out w r out' w' all room word t

chna_back : (channels tracks uids : ℕ) (entries out w out' w' : List ℕ) → WritesChna channels tracks uids entries out w 0 out' w'
    → chna_in channels (written_in out' w') ≡ Ok (whole_of tracks uids entries)
unfolding written_in
chna_back channels tracks uids entries out w out' w' h =
    chna-reads-back channels tracks uids entries _ (wrote-out _ out w out' w' h).is_given

module _ (form : Form) (f b c a out w out' w' : List ℕ) (bytes : Bytes c) (small : length out < 256 ^ 8) (h : WritesFile form f b c a out w 0 out' w') where
  file_back : WayBack form (format_of f) b c a (written_in out' w')
  unfolding file_of of_nine written_in
  file_back =
      let k = wrote-out _ out w out' w' h in
      way_back form (format_of f) b c a _ bytes (omega (arith, small, k.fits, length-take (get_or w' 0 0) out')) (check-given (eqb (length f) 9) BadRecord (file_out form (format_of f) b c a) _ k.is_given).1

  file_table : (v : List ℕ) (r : ℕ) (v' : List ℕ) → WORDS ≤ length v → Scans (written_in out' w') v r v'
      → (r ≡ 0) × (v' ≡ tabled (table_for form (length b) (length c) (length a)) v)
  file_table v r v' l k =
      let g = scan-is _ v r v' file_back.scanned file_back.accepted l k in
      (g.0, g.1 ∙ ap (λ (x : List Entry). tabled x v) file_back.rows)

-- ---- where the sizes came from

-- the fourth word of a row is the number of its source
fourth : (at : ℕ) (w : List ℕ) → get_or w (at + 3) 0 ≡ source_number (row_in at w).source
unfolding row_in
fourth at w = sym (number-back (get_or w (at + 3) 0))

fourth-word : (s : List ℕ) (d : Ds64) (ks : List Ds64Entry) (e : Entry) (k : ℕ) → k ≡ source_number e.source
    → Marks d ks e.name (own_field s e) (row-size e) → FourthWord s ks e k
fourth-word s d ks e k n m =
    record {
      own = ((λ z. m.plain.0 (told Own z)), λ o. n ∙ ap source_number (m.plain.1 o));
      audio = ((λ z. m.audio.0 (told DataSize z)), λ o. n ∙ ap source_number (m.audio.1 o));
      entry = λ p z. m.entry p (told (EntryAt p) z);
    }
  where
    told : (x : Source) → k ≡ source_number x → e.source ≡ x
    told x z = sym (source-back e.source) ∙ ap source_of (sym n ∙ z) ∙ source-back x

fourth-words : (s w w' : List ℕ) (l : Listing) → w' ≡ tabled l.rows w → listing s ≡ Ok l → (i : ℕ) → i < get_or w' 0 0
    → FourthWord s (entries_of l.head s) (row_in (1 + 4 * i) w') (get_or w' (1 + 4 * i + 3) 0)
fourth-words s w w' l t e i k =
    let r = table-row l.rows w w' t i k in
    subst (λ (y : Entry). FourthWord s (entries_of l.head s) y (get_or w' (1 + 4 * i + 3) 0)) (sym r.2)
    (fourth-word s l.head.ds64 (entries_of l.head s) r.0 _
    (fourth (1 + 4 * i) w' ∙ ap (λ (y : Entry). source_number y.source) r.2) ((list-tables s l e).marks r.0 r.1))

sources : (s w w' : List ℕ) (a : Scan) → Scans s w 0 w' → scan s ≡ Ok a → (i : ℕ) → i < get_or w' 0 0
    → FourthWord s (entries_of a.head s) (row_in (1 + 4 * i) w') (get_or w' (1 + 4 * i + 3) 0)
sources s w w' a h e i l = fourth-words s w w' (listing_of a) (scan-table s w w' a h e) (scan-listed s a e) i l

-- rows that say own field have 0 there
own-words : (rows : List Entry) (w w' : List ℕ) → w' ≡ tabled rows w → ((e : Entry) → Memᴰ e rows → e.source ≡ Own)
    → (i : ℕ) → i < get_or w' 0 0 → get_or w' (1 + 4 * i + 3) 0 ≡ 0
own-words rows w w' is own i k =
    let x = table-row rows w w' is i k in
    fourth (1 + 4 * i) w' ∙ ap (λ (y : Entry). source_number y.source) x.2 ∙ ap source_number (own x.0 x.1)

walk-own : (s v : List ℕ) (r : ℕ) (v' : List ℕ) → WORDS ≤ length v → Walks32 s v r v' → (i : ℕ) → i < get_or v' 0 0
    → get_or v' (1 + 4 * i + 3) 0 ≡ 0
unfolding SaysOwn
walk-own s v r v' l h = own-words (walk32 s).rows v v' (enough _ _ _ v r v' l h).1 (says-own s)

pub promise-2 : Promise2
unfolding written_in ListsExactly AcceptsExactly whole_of
promise-2 =
    record {
      accepts = accepts;
      table = λ s w w' a b h g. scan-table s w w' a h ((accepts-exactly s b a).1 g);
      in_turn = λ s w r p q w' u l a h j. turn s w p q u l h j r w' a;
      accepts_in_turn = λ s w p q u b l h j. both s w p q u l h j b;
      lists = lists;
      list_table = λ s w w' l b h g. list-table s w w' l h ((lists-exactly s b l).1 g);
      list_sources = λ s w w' l h e. fourth-words s w w' l (list-table s w w' l h e) e;
      stale = stale;
      fresh = fresh-says;
      judges = λ s w r j. (judges s w r j).0;
      as_scan = λ s w r f j. j ∙ ap number_of ((decides s w).fresh f);
      in_place = λ a out w out' w' h. let k = wrote-out a out w out' w' h in record { fits = k.fits; rest = k.output };
      fmt_back = fmt_back;
      bext_back = bext_back;
      bext_words = bext_words;
      bext_parts = bext_parts;
      parts_stand = stand;
      entry_stands = entry_stands;
      chna_back = chna_back;
      chna_entries = λ channels tracks uids entries out w out' w' h i v r v' l k.
          let g = enough _ _ _ v r v' l k in
          let e = entry-of-record channels _ _ (chna_back channels tracks uids entries out w out' w' h) i in
          (g.0, g.1 ∙ ap (λ (x : chna-entry.Entry). sets v 0 (entry_values (4 + i * 40) x)) e);
      file_back = file_back;
      sources = sources;
      file_table = file_table;
      fmt_again = λ p v v' out w r out' w' b h. fmt_again p v v' h out w r out' w' b;
      bext_again = λ p out w b r out' w' bs e room word t.
          writes-given _ p out w r out' w' (bext-writes-back p bs b e) room word t;
      chna_again = λ channels p out w c r out' w' bs e room word t.
          writes-given _ (pads_zeroed p) out w r out' w' (chna-again-out channels p c bs e) (subst (λ (n : ℕ). n ≤ length out) (sym (zeroed-length p)) room) word t;
    }

-- ---- demand 3

walk_is : (s v : List ℕ) (q : ℕ) (v' : List ℕ) (x : Walked) → walk32 s ≡ x → WORDS ≤ length v → Walks32 s v q v'
    → (q ≡ number_of x.end) × (v' ≡ tabled x.rows v)
walk_is s v q v' x e l h =
    let g = enough _ _ _ v q v' l h in
    (g.0 ∙ ap (λ (y : Walked). number_of y.end) e, g.1 ∙ ap (λ (y : Walked). tabled y.rows v) e)

first : (s w w' v : List ℕ) (r : ℕ) (v' : List ℕ) → Scans s w 0 w' → WORDS ≤ length v → Walks32 s v r v' → WalkPromise s w w' v r v'
first s w w' v r v' a l h =
    let x = scanned s w w' a in
    let f = first-half s x.by x.is in
    record {
      rows = x.by.rows;
      table = x.table;
      stops = λ xs e ys q sized ones. walk_is s v r v' _ (f.stops xs e ys q sized ones) l h;
      whole = λ sized. walk_is s v r v' _ (f.whole sized) l h;
    }

listed : (s w w' v : List ℕ) (r : ℕ) (v' : List ℕ) → Lists s w 0 w' → WORDS ≤ length v → Walks32 s v r v' → WalkPromise s w w' v r v'
listed s w w' v r v' a l h =
    let x = listed-by s w w' a in
    let f = list-half s x.by x.is in
    record {
      rows = x.by.rows;
      table = x.table;
      stops = λ xs e ys q sized ones. walk_is s v r v' _ (f.stops xs e ys q sized ones) l h;
      whole = λ sized. walk_is s v r v' _ (f.whole sized) l h;
    }

upgraded-0 : (t : Target) (s u : List ℕ) → Upgrades t s 0 u → upgraded t s ≡ Ok u
unfolding file_after
upgraded-0 t s u a =
    let x = accepted (upgraded t s) (sym a.number) in
    x.1 ∙ ap Ok (sym (a.bytes ∙ ap (file_after s) x.1))

module _ (t : Target) (s w w' : List ℕ) (a : Scan) (r : ℕ) (u : List ℕ) (b : Bytes s) (table : w' ≡ tabled a.rows w) (e : scan s ≡ Ok a) (riff : a.head.form ≡ Riff) (h : Upgrades t s r u) where
  half : upgrade.SecondHalf t s a
  half = second-half t s a b e riff

  done : r ≡ 0 → Upgraded t s a u
  done z = half.after u (upgraded-0 t s u (subst (λ (n : ℕ). Upgrades t s n u) z h))

  otherwise : (Reserved a.rows → ⊥) → (r ≡ 19) × (u ≡ s)
  unfolding verdict_of file_after
  otherwise n =
      let q = half.otherwise n in
      (h.number ∙ ap (λ (x : Answer (List ℕ)). number_of (verdict_of x)) q, h.bytes ∙ ap (file_after s) q)

  succeeds : (r ≡ 0) ↔ Reserved a.rows
  unfolding verdict_of
  succeeds = (
    (λ z. half.succeeds.0 (u, upgraded-0 t s u (subst (λ (n : ℕ). Upgrades t s n u) z h))),
    (λ k. let g = half.succeeds.1 k in h.number ∙ ap (λ (x : Answer (List ℕ)). number_of (verdict_of x)) g.1),
  )

  second-of : UpgradePromise t s w w' a r u
  second-of =
      record {
        table = table;
        succeeds = succeeds;
        otherwise = otherwise;
        before = own-words a.rows w w' table half.before;
        after = done;
        scan_after = λ z v q v' l k.
            let d = done z in
            let g = scan-is u v q v' d.again d.accepted l k in
            (g.0, g.1 ∙ ap (λ (x : List Entry). tabled x v) d.rows);
        count_after = λ z v q q' v' v'' k m.
            let same : samples_of u ≡ samples_of s = (done z).samples in (
              m.returns ∙ ap (λ (x : Answer (Option ℕ)). pick (leb 2 (length v)) (number_of x) 15) same ∙ sym k.returns,
              m.words ∙ ap (λ (x : Answer (Option ℕ)). pick (leb 2 (length v)) (sets v 0 (samples_values x)) v) same ∙ sym k.words,
            );
        walk_after = λ z v q v' l k.
            let d = done z in
            let g = walk_is u v q v' _ d.walk l k in
            (g.0, g.1 ∙ ap (λ (x : List Entry). tabled (ahead_of DATA x) v) d.rows);
      }

pub promise-3 : Promise3
promise-3 =
    record {
      own = walk-own;
      first = first;
      listed = listed;
      second = λ t s w w' a r u b k e riff h. second-of t s w w' a r u b (scan-table s w w' a k e) e riff h;
      second_in_turn = λ t s w w' r u b k j.
          let l = (good _ _ _ w w' k).long in
          let x = accepted (scan s) (sym (judged-scan s w 0 0 w' l k j refl)) in
          (x.0, x.1, second-of t s w w' x.0 r u b (list-table s w w' (listing_of x.0) k (scan-listed s x.0 x.1)) x.1);
    }
