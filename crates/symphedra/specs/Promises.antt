-- The customer's three demands, said of the functions of include/symphedra.h. proofs/Promises.antt proves them. In quotation
-- marks stand words of the demands.
--
-- `Scans file w r w'` says: symphedra_scan, lent the bytes `file` and the words w, returns r and leaves the words w'. Every
-- function has such a relation (Exports.antt, and records/specs), and it is the function's whole contract, for all that can
-- be lent to it: "No caller has to check anything first." What C lends are bytes, fewer than 2^64; a statement that needs it
-- says so.
use Rattle.std.specs.Prelude.{ℕ, ◌+◌, ◌≤◌, ◌<◌, ◌^◌, ◌*◌, ◌≡◌, ◌↔◌, ◌⊎◌, List, [], ◌∷◌, ◌++◌, map, length, take, drop, get_or, replicate}
use Rattle.std.proofs.lemmas.List.Edits.{sets}
use Rattle.le.specs.Number.{Bytes}
use Rattle.chunk.specs.declared.Entry.{Entry}
use Rattle.chunk.specs.declared.Refusal.{Refusal}
use Rattle.chunk.specs.Refusals.{refusal_number, Answer, Ok, number_of, verdict_of}
use Rattle.chunk.specs.Names.{DATA}
use Rattle.chunk.specs.Fields.{ONES}
use Rattle.chunk.specs.Tables.{tabled, row_in, WORDS}
use Rattle.form.specs.declared.Form.{Form}
use Rattle.form.specs.declared.Form.TheVariants.{Riff}
use Rattle.bext.specs.Records.{Whole, bext_in, bext_values, numbers_of}
use Rattle.bext.specs.Slices.{parts_in, Stand}
use Rattle.chna_entry.specs.Entries.{Used, unused, used}
use Rattle.chna.specs.Records.{Whole as Chna, entry_at, EntryStands, entries_in, chna_in, whole_of, pads_zeroed}
use Rattle.truesize.specs.Sizes.{Ds64Entry, entries_of}
use Rattle.truesize.specs.Told.{FirstEntry}
use Rattle.listing.specs.Listings.{Listing, listing}
use Rattle.wave.specs.Scans.{Scan, scan}
use Rattle.wave.specs.Judgements.{FreshListing, FreshSays}
use Rattle.wave.specs.Grammar.{GoodShape, GoodFile}
use Rattle.wave.specs.Tables.{own_field}
use Rattle.wave.specs.Demand3.{Sized}
use Rattle.upgrade.specs.declared.Target.{Target}
use Rattle.upgrade.specs.Demand3.{Reserved, renamed, marked, ahead_of, Upgraded}
use Rattle.writer.specs.WayBack.{WayBack, table_for}
use Rattle.words.specs.Answers.{Answers, WritesOut}
use Rattle.records.specs.Reading.{ReadsFmt, ReadsBext, PartsOf, ReadsChna, EntryOf, places_of, entry_values}
use Rattle.records.specs.Writing.{format_of, WritesFmt, WritesBext, WritesChna}
use Rattle.symphedra.specs.Exports.{Lists, Judges, Scans, Walks32, Counts, Upgrades, WritesFile}

-- ---- demand 1

-- "answers or gives one of the numbered refusals"
unfoldable pub Numbered : ℕ → Type 0
Numbered r = (r ≡ 0) ⊎ ((x : Refusal) × (r ≡ refusal_number x))

pub record Promise1 : Type 0 where
  pub scan_numbered : (s w : List ℕ) (r : ℕ) (w' : List ℕ) → Scans s w r w' → Numbered r
  pub list_numbered : (s w : List ℕ) (r : ℕ) (w' : List ℕ) → Lists s w r w' → Numbered r
  pub judge_numbered : (s w : List ℕ) (r : ℕ) → Judges s w r → Numbered r
  pub walk_numbered : (s w : List ℕ) (r : ℕ) (w' : List ℕ) → Walks32 s w r w' → Numbered r
  pub count_numbered : (s w : List ℕ) (r : ℕ) (w' : List ℕ) → Counts s w r w' → Numbered r
  pub upgrade_numbered : (t : Target) (s : List ℕ) (r : ℕ) (u : List ℕ) → Upgrades t s r u → Numbered r
  pub fmt_numbered : (p w : List ℕ) (r : ℕ) (w' : List ℕ) → ReadsFmt p w r w' → Numbered r
  pub bext_numbered : (p w : List ℕ) (r : ℕ) (w' : List ℕ) → ReadsBext p w r w' → Numbered r
  pub chna_numbered : (channels : ℕ) (p w : List ℕ) (r : ℕ) (w' : List ℕ) → ReadsChna channels p w r w' → Numbered r
  pub parts_numbered : (p w : List ℕ) (r : ℕ) (w' : List ℕ) → PartsOf p w r w' → Numbered r
  pub entry_numbered : (i : ℕ) (p w : List ℕ) (r : ℕ) (w' : List ℕ) → EntryOf i p w r w' → Numbered r
  -- every writer, of records and of files
  pub write_numbered : (a : Answer (List ℕ)) (out w : List ℕ) (r : ℕ) (out' w' : List ℕ) → WritesOut a out w r out' w' → Numbered r
  -- "A refused scan gives an empty table": word 0 is 0, and no other word changes
  pub scan_refused : (s w : List ℕ) (r : ℕ) (w' : List ℕ) → WORDS ≤ length w → Scans s w r w' → (r ≡ 0 → ⊥) → w' ≡ sets w 0 (0 ∷ [])
  -- and so does a refused listing
  pub list_refused : (s w : List ℕ) (r : ℕ) (w' : List ℕ) → WORDS ≤ length w → Lists s w r w' → (r ≡ 0 → ⊥) → w' ≡ sets w 0 (0 ∷ [])
  -- a refused count or reader gives zeros
  pub count_refused : (s w : List ℕ) (r : ℕ) (w' : List ℕ) → 2 ≤ length w → Counts s w r w' → (r ≡ 0 → ⊥) → w' ≡ sets w 0 (replicate 2 0)
  pub fmt_refused : (p w : List ℕ) (r : ℕ) (w' : List ℕ) → 9 ≤ length w → ReadsFmt p w r w' → (r ≡ 0 → ⊥) → w' ≡ sets w 0 (replicate 9 0)
  pub bext_refused : (p w : List ℕ) (r : ℕ) (w' : List ℕ) → 8 ≤ length w → ReadsBext p w r w' → (r ≡ 0 → ⊥) → w' ≡ sets w 0 (replicate 8 0)
  pub chna_refused : (channels : ℕ) (p w : List ℕ) (r : ℕ) (w' : List ℕ) → 3 ≤ length w → ReadsChna channels p w r w' → (r ≡ 0 → ⊥)
      → w' ≡ sets w 0 (replicate 3 0)
  -- "a refused write or upgrade changes no byte"; a writer's word is 0
  pub upgrade_refused : (t : Target) (s : List ℕ) (r : ℕ) (u : List ℕ) → Upgrades t s r u → (r ≡ 0 → ⊥) → u ≡ s
  pub write_refused : (a : Answer (List ℕ)) (out w : List ℕ) (r : ℕ) (out' w' : List ℕ) → WritesOut a out w r out' w' → (r ≡ 0 → ⊥)
      → (out' ≡ out) × (w' ≡ sets w 0 (0 ∷ []))
  -- too few words to answer in: 15, and no word changes
  pub too_few : (least n : ℕ) (new w : List ℕ) (r : ℕ) (w' : List ℕ) → length w < least → Answers least n new w r w' → (r ≡ 15) × (w' ≡ w)

-- ---- demand 2

-- what a writer says it wrote: as many bytes as its word has, at the start of its output
unfoldable pub written_in : List ℕ → List ℕ → List ℕ
written_in out' w' = take (get_or w' 0 0) out'

-- the word says no more than there was room for, and no byte past those changes
pub record InPlace (out out' w' : List ℕ) : Type 0 where
  pub fits : get_or w' 0 0 ≤ length out
  pub rest : out' ≡ written_in out' w' ++ drop (get_or w' 0 0) out

-- The fourth word k of a row of the table of s, whose ds64 has these entries (document 02): 0 for "own field", exactly where
-- that isn't all ones; 1 for "ds64 data size", exactly for data with an all-ones field; 2 + p for "the position (from 0) of the
-- ds64 entry used", the first of the row's name, whose size is the row's
pub record FourthWord (s : List ℕ) (ks : List Ds64Entry) (row : Entry) (k : ℕ) : Type 0 where
  pub own : (k ≡ 0) ↔ (own_field s row ≡ ONES → ⊥)
  pub audio : (k ≡ 1) ↔ ((row.name ≡ DATA) × (own_field s row ≡ ONES))
  pub entry : (p : ℕ) → k ≡ 2 + p → FirstEntry row.name p row.size ks

-- What the scan, the listing and the judgement of its table return, in this order, and the tables of the first two: "both in
-- turn with today's refusals" (document 02)
pub record InTurn (r p q : ℕ) (w' u : List ℕ) : Type 0 where
  pub first : (p ≡ 0 → ⊥) → r ≡ p
  pub then : p ≡ 0 → r ≡ q
  pub table : r ≡ 0 → w' ≡ u

pub record Promise2 : Type 0 where
  -- "A scan accepts exactly the RIFF, RF64 and BW64 files that document 01 defines": the grammar of wave/specs/Grammar.antt;
  -- "with each chunk's name, place and true 64-bit size"
  pub accepts : (s w : List ℕ) (r : ℕ) (w' : List ℕ) → Bytes s → WORDS ≤ length w → Scans s w r w' → (r ≡ 0) ↔ ((a : Scan) × GoodFile s a)
  pub table : (s w : List ℕ) (w' : List ℕ) (a : Scan) → Bytes s → Scans s w 0 w' → GoodFile s a → w' ≡ tabled a.rows w
  -- and where each size came from
  pub sources : (s w : List ℕ) (w' : List ℕ) (a : Scan) → Scans s w 0 w' → scan s ≡ Ok a → (i : ℕ) → i < get_or w' 0 0
      → FourthWord s (entries_of a.head s) (row_in (1 + 4 * i) w') (get_or w' (1 + 4 * i + 3) 0)
  -- symphedra_scan is symphedra_list and then symphedra_judge
  pub in_turn : (s w : List ℕ) (r p q : ℕ) (w' u : List ℕ) → WORDS ≤ length w → Scans s w r w' → Lists s w p u → Judges s u q
      → InTurn r p q w' u
  -- and what the scan accepts, both in turn accept
  pub accepts_in_turn : (s w : List ℕ) (p q : ℕ) (u : List ℕ) → Bytes s → WORDS ≤ length w → Lists s w p u → Judges s u q
      → ((p ≡ 0) × (q ≡ 0)) ↔ ((a : Scan) × GoodFile s a)
  -- the listing accepts exactly the files of the shape that document 01 defines (wave/specs/Grammar.antt), whatever their format
  pub lists : (s w : List ℕ) (r : ℕ) (w' : List ℕ) → Bytes s → WORDS ≤ length w → Lists s w r w' → (r ≡ 0) ↔ ((l : Listing) × GoodShape s l)
  pub list_table : (s w : List ℕ) (w' : List ℕ) (l : Listing) → Bytes s → Lists s w 0 w' → GoodShape s l → w' ≡ tabled l.rows w
  pub list_sources : (s w : List ℕ) (w' : List ℕ) (l : Listing) → Lists s w 0 w' → listing s ≡ Ok l → (i : ℕ) → i < get_or w' 0 0
      → FourthWord s (entries_of l.head s) (row_in (1 + 4 * i) w') (get_or w' (1 + 4 * i + 3) 0)
  -- 24 "for a listing that isn't a fresh listing of the given file, and also where the file has no listing", exactly, and
  -- which words are one; else 11, 12 or none, the scan's own
  pub stale : (s w : List ℕ) (r : ℕ) → Judges s w r → (r ≡ 24) ↔ (FreshListing s w → ⊥)
  pub fresh : (s w : List ℕ) → FreshListing s w → FreshSays s w
  pub judges : (s w : List ℕ) (r : ℕ) → Judges s w r → (r ≡ 0) ⊎ (r ≡ 24) ⊎ (r ≡ 11) ⊎ (r ≡ 12)
  pub as_scan : (s w : List ℕ) (r : ℕ) → FreshListing s w → Judges s w r → r ≡ number_of (verdict_of (scan s))
  -- "What we write reads back as the records .. we gave." Every writer:
  pub in_place : (a : Answer (List ℕ)) (out w out' w' : List ℕ) → WritesOut a out w 0 out' w' → InPlace out out' w'
  -- fmt: the nine words that were given
  pub fmt_back : (f out w out' w' : List ℕ) → WritesFmt f out w 0 out' w'
      → (v : List ℕ) (r : ℕ) (v' : List ℕ) → 9 ≤ length v → ReadsFmt (written_in out' w') v r v' → (r ≡ 0) × (v' ≡ sets v 0 f)
  -- bext: the record that was given, its eight words, and its parts where they stand
  pub bext_back : (b : Whole) (out w out' w' : List ℕ) → WritesBext b out w 0 out' w' → bext_in (written_in out' w') ≡ Ok b
  pub bext_words : (b : Whole) (out w out' w' : List ℕ) → WritesBext b out w 0 out' w'
      → (v : List ℕ) (r : ℕ) (v' : List ℕ) → 8 ≤ length v → ReadsBext (written_in out' w') v r v'
      → (r ≡ 0) × (v' ≡ sets v 0 (bext_values (Ok (numbers_of b))))
  pub bext_parts : (b : Whole) (out w out' w' : List ℕ) → WritesBext b out w 0 out' w'
      → (v : List ℕ) (r : ℕ) (v' : List ℕ) → 14 ≤ length v → PartsOf (written_in out' w') v r v'
      → (r ≡ 0) × (v' ≡ sets v 0 (places_of b)) × (parts_in (written_in out' w') ≡ b)
  -- and of any payload: the places that symphedra_bext_parts names are those of the parts
  pub parts_stand : (p : List ℕ) → Stand p
  -- chna: the counts and the entries that were given
  pub chna_back : (channels tracks uids : ℕ) (entries out w out' w' : List ℕ) → WritesChna channels tracks uids entries out w 0 out' w'
      → chna_in channels (written_in out' w') ≡ Ok (whole_of tracks uids entries)
  pub chna_entries : (channels tracks uids : ℕ) (entries out w out' w' : List ℕ) → WritesChna channels tracks uids entries out w 0 out' w'
      → (i : ℕ) (v : List ℕ) (r : ℕ) (v' : List ℕ) → 5 ≤ length v → EntryOf i (written_in out' w') v r v'
      → (r ≡ 0) × (v' ≡ sets v 0 (entry_values (4 + i * 40) (get_or (entries_in entries) i unused)))
  -- and of any payload: the places that symphedra_chna_entry names are those of UID, track and pack reference
  pub entry_stands : (i : ℕ) (p : List ℕ) (u : Used) → entry_at i p ≡ used u → EntryStands i p u
  -- "records and audio": of a file of a form, a format record in nine words, the payloads b and c of bext and chna, and audio a.
  -- All of writer/specs/WayBack.antt: table, records, audio and sample count, the walk, and what an upgrade makes of it
  pub file_back : (form : Form) (f b c a out w out' w' : List ℕ) → Bytes c → length out < 256 ^ 8 → WritesFile form f b c a out w 0 out' w'
      → WayBack form (format_of f) b c a (written_in out' w')
  pub file_table : (form : Form) (f b c a out w out' w' : List ℕ) → Bytes c → length out < 256 ^ 8 → WritesFile form f b c a out w 0 out' w'
      → (v : List ℕ) (r : ℕ) (v' : List ℕ) → WORDS ≤ length v → Scans (written_in out' w') v r v'
      → (r ≡ 0) × (v' ≡ tabled (table_for form (length b) (length c) (length a)) v)
  -- and what is read is written again as the same bytes: fmt where bytes a second are rate x block, chna but for the pads
  pub fmt_again : (p v v' out w : List ℕ) (r : ℕ) (out' w' : List ℕ) → Bytes p → ReadsFmt p v 0 v'
      → (format_of (take 9 v')).byterate ≡ (format_of (take 9 v')).rate * (format_of (take 9 v')).block
      → length p ≤ length out → 1 ≤ length w → WritesFmt (take 9 v') out w r out' w' → (r ≡ 0) × (written_in out' w' ≡ p)
  pub bext_again : (p out w : List ℕ) (b : Whole) (r : ℕ) (out' w' : List ℕ) → Bytes p → bext_in p ≡ Ok b
      → length p ≤ length out → 1 ≤ length w → WritesBext b out w r out' w' → (r ≡ 0) × (written_in out' w' ≡ p)
  pub chna_again : (channels : ℕ) (p out w : List ℕ) (c : Chna) (r : ℕ) (out' w' : List ℕ) → Bytes p → chna_in channels p ≡ Ok c
      → length p ≤ length out → 1 ≤ length w → WritesChna channels c.tracks c.uids (drop 4 p) out w r out' w'
      → (r ≡ 0) × (written_in out' w' ≡ pads_zeroed p)

-- ---- demand 3

-- "Take any file that the scan accepts .., and read it with the plain 32-bit walk": the words w' of the scan, and the number r
-- and the words v' of the walk
pub record WalkPromise (s w w' v : List ℕ) (r : ℕ) (v' : List ℕ) : Type 0 where
  -- the scan's table
  pub rows : List Entry
  pub table : w' ≡ tabled rows w
  -- "It shows exactly the chunks ahead of the first chunk whose own size field is all ones, each as the scan's table shows
  -- it and in that order, then stops there with refusal 7."
  pub stops : (xs : List Entry) (e : Entry) (ys : List Entry) → rows ≡ xs ++ e ∷ ys → Sized s xs → own_field s e ≡ ONES
      → (r ≡ 7) × (v' ≡ tabled xs v)
  -- "With no such chunk it shows the whole table and ends with no refusal."
  pub whole : Sized s rows → (r ≡ 0) × (v' ≡ tabled rows v)

-- "Now take any accepted RIFF file, and RF64 or BW64 as target": the number r and the file u that an upgrade leaves
pub record UpgradePromise (t : Target) (s w w' : List ℕ) (a : Scan) (r : ℕ) (u : List ℕ) : Type 0 where
  pub table : w' ≡ tabled a.rows w
  -- "Upgrading succeeds exactly when the first chunk is JUNK of at least 28 bytes; otherwise it gives 19."
  pub succeeds : (r ≡ 0) ↔ Reserved a.rows
  pub otherwise : (Reserved a.rows → ⊥) → (r ≡ 19) × (u ≡ s)
  -- before it each size was the chunk's own field's: every fourth word is 0
  pub before : (i : ℕ) → i < get_or w' 0 0 → get_or w' (1 + 4 * i + 3) 0 ≡ 0
  -- "After a success every byte is what document 01's rule for the upgrade makes of the old file", and all else that the
  -- demand says of bytes, audio and fields (upgrade/specs/Demand3.antt)
  pub after : r ≡ 0 → Upgraded t s a u
  -- "The scan accepts it, with the same names, places and sizes in the same order, except that the first name is now ds64";
  -- the fourth word "changes for data alone", from 0 to 1
  pub scan_after : r ≡ 0 → (v : List ℕ) (q : ℕ) (v' : List ℕ) → WORDS ≤ length v → Scans u v q v'
      → (q ≡ 0) × (v' ≡ tabled (map marked (renamed a.rows)) v)
  -- "and so is the sample count as document 01 defines it: the same number, or none both times"
  pub count_after : r ≡ 0 → (v : List ℕ) (q q' : ℕ) (v' v'' : List ℕ) → Counts s v q v' → Counts u v q' v'' → (q' ≡ q) × (v'' ≡ v')
  -- "The 32-bit walk shows every chunk ahead of data and stops at data with 7."
  pub walk_after : r ≡ 0 → (v : List ℕ) (q : ℕ) (v' : List ℕ) → WORDS ≤ length v → Walks32 u v q v'
      → (q ≡ 7) × (v' ≡ tabled (ahead_of DATA (map marked (renamed a.rows))) v)

pub record Promise3 : Type 0 where
  -- "The 32-bit walk only ever says own field": each fourth word that it stores is 0, of any bytes
  pub own : (s v : List ℕ) (r : ℕ) (v' : List ℕ) → WORDS ≤ length v → Walks32 s v r v' → (i : ℕ) → i < get_or v' 0 0
      → get_or v' (1 + 4 * i + 3) 0 ≡ 0
  pub first : (s w w' v : List ℕ) (r : ℕ) (v' : List ℕ) → Scans s w 0 w' → WORDS ≤ length v → Walks32 s v r v' → WalkPromise s w w' v r v'
  -- "The 32-bit walk is also compared with every accepted listing" (document 02), also of a file that the scan refuses; w' and
  -- the table are the listing's
  pub listed : (s w w' v : List ℕ) (r : ℕ) (v' : List ℕ) → Lists s w 0 w' → WORDS ≤ length v → Walks32 s v r v' → WalkPromise s w w' v r v'
  pub second : (t : Target) (s w w' : List ℕ) (a : Scan) (r : ℕ) (u : List ℕ) → Bytes s → Scans s w 0 w' → scan s ≡ Ok a
      → a.head.form ≡ Riff → Upgrades t s r u → UpgradePromise t s w w' a r u
  -- and of a file that the listing and the judgement of its table accept in turn
  pub second_in_turn : (t : Target) (s w w' : List ℕ) (r : ℕ) (u : List ℕ) → Bytes s → Lists s w 0 w' → Judges s w' 0
      → (a : Scan) × (scan s ≡ Ok a) × (a.head.form ≡ Riff → Upgrades t s r u → UpgradePromise t s w w' a r u)
