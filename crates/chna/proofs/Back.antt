-- A good record is read back from its own bytes: entry by entry, and then whole.
-- Assumes nothing.
use mathlib.Core.Path.{◌≡◌, refl, ap, ap₂, ◌∙◌}
use mathlib.Core.Bool.{Bool, true, false}
use mathlib.Core.List.{List, [], ◌∷◌, ◌++◌, append_assoc}
use Prim.Native.Nat.{ℕ, suc, ◌+◌, ◌*◌, ◌/◌, ◌≤◌, ◌<◌}
use native.Mathlib.Omega.{arith}
use lib.ListN.{length, drop, length-append}
use lib.Seq.{take_at, drop_at}
use borrow.Author.Tests.{leb-true, eqb-true}
use Rattle.le.specs.Number.{bytes, number}
use Rattle.le.specs.Choice.{pick, every}
use Rattle.le.proofs.Laws.{bytes-length}
use Rattle.chunk.proofs.Checks.{rule_and}
use Rattle.chna_entry.specs.Ids.{fits_one, fits}
use Rattle.chna_entry.specs.Entries.{Entry, unused, used, used_in, entry_in, entry_good}
use Rattle.chna.specs.Records.{entries_at, entries_in, entries_good, indices, occurs, different, Whole, whole_of, whole_in, whole_good, length_good, entry_bytes, entries_bytes, payload_of}
use Rattle.chna_entry.proofs.Entries.{good-used}
use Rattle.chna_entry.proofs.Parts.{number-mid, number-first, laid_out, used-length, used-back, not_zeros}
use Rattle.chna.proofs.Answers.{length-good}
use Rattle.chna.proofs.Payloads.{four_bytes}

-- ---- one entry

pub entry_length : (channels : ℕ) (e : Entry) → entry_good channels e ≡ true → length (entry_bytes e) ≡ 40
unfolding entry_good entry_bytes
entry_length channels unused h = refl
entry_length channels (used u) h = used-length channels u (good-used channels u h)

pub entry-back : (channels : ℕ) (e : Entry) → entry_good channels e ≡ true → entry_in (entry_bytes e) ≡ e
unfolding entry_good entry_bytes entry_in fits fits_one pick
entry-back channels unused h = refl
entry-back channels (used u) h =
    let g = good-used channels u h in
    ap (λ (b : Bool). pick b unused (used (used_in (laid_out u)))) (not_zeros channels u g)
    ∙ ap used (used-back channels u g)

-- ---- all entries

entries-length : (channels : ℕ) (es : List Entry) → entries_good channels es ≡ true → length (entries_bytes es) ≡ length es * 40
unfolding entries_good entries_bytes pick
entries-length channels [] h = refl
entries-length channels (e ∷ es) h =
    let g = rule_and (entry_good channels e) (entries_good channels es) h in
    omega (arith, length-append (entry_bytes e) (entries_bytes es), entry_length channels e g.0, entries-length channels es g.1)

entries-back : (channels : ℕ) (es : List Entry) → entries_good channels es ≡ true → entries_at (length es) (entries_bytes es) ≡ es
unfolding entries_good entries_bytes entries_at pick
entries-back channels [] h = refl
entries-back channels (e ∷ es) h =
    let g = rule_and (entry_good channels e) (entries_good channels es) h in
    let long = entry_length channels e g.0 in
    ap₂ (λ (x : Entry) (xs : List Entry). x ∷ xs)
    (ap entry_in (take_at (entry_bytes e) (entries_bytes es) 40 long) ∙ entry-back channels e g.0)
    (ap (entries_at (length es)) (drop_at (entry_bytes e) (entries_bytes es) 40 long)
    ∙ entries-back channels es g.1)

-- ---- the record

indices-few : (es : List Entry) → length (indices es) ≤ length es
unfolding indices
indices-few [] = omega arith
indices-few (unused ∷ es) = omega (arith, indices-few es)
indices-few (used u ∷ es) = omega (arith, indices-few es)

different-few : (is : List ℕ) → different is ≤ length is
unfolding different pick
different-few [] = omega arith
different-few (i ∷ is) = by (occurs i is) (different-few is) where
  by : (b : Bool) → different is ≤ length is → pick b (different is) (suc (different is)) ≤ suc (length is)
  by true h = omega arith
  by false h = omega arith

-- what the rules of a record tell
pub record Sound (channels : ℕ) (w : Whole) : Type 0 where
  pub few : length w.entries ≤ 1024
  pub good : entries_good channels w.entries ≡ true
  pub uids : w.uids ≡ length (indices w.entries)
  pub tracks : w.tracks ≡ different (indices w.entries)

pub sound : (channels : ℕ) (w : Whole) → whole_good channels w ≡ true → Sound channels w
unfolding whole_good every
sound channels w e =
    let few = rule_and _ _ e in
    let good = rule_and _ _ few.1 in
    let uids = rule_and _ _ good.1 in
    record {
      few = leb-true (length w.entries) 1024 few.0;
      good = good.0;
      uids = eqb-true w.uids (length (indices w.entries)) uids.0;
      tracks = eqb-true w.tracks (different (indices w.entries)) (rule_and _ true uids.1).0;
    }

abbrev whole : ℕ → ℕ → List Entry → Whole
whole t u es = record { tracks = t; uids = u; entries = es }

module _ (channels : ℕ) (w : Whole) (h : whole_good channels w ≡ true) where
  entries-size : length (entries_bytes w.entries) ≡ length w.entries * 40
  entries-size = entries-length channels w.entries (sound channels w h).good

  pub payload-size : length (payload_of w) ≡ 4 + length w.entries * 40
  unfolding payload_of
  payload-size =
      omega (
        arith,
        length-append (bytes 2 w.tracks ++ bytes 2 w.uids) (entries_bytes w.entries),
        four_bytes w.tracks w.uids,
        entries-size,
      )

  pub payload-length : length_good (length (payload_of w)) ≡ true
  payload-length = length-good (length (payload_of w)) (omega (arith, payload-size)) (omega (arith, payload-size))

  pub payload-back : whole_in (payload_of w) ≡ w
  unfolding whole_in whole_of payload_of entries_in
  payload-back =
      let s = sound channels w h in
      let t : w.tracks < 65536 =
      omega (arith, s.tracks, s.few, different-few (indices w.entries), indices-few w.entries) in
      let u : w.uids < 65536 = omega (arith, s.uids, s.few, indices-few w.entries) in
      let es : List ℕ = entries_bytes w.entries in
      let rest : drop 4 (bytes 2 w.tracks ++ bytes 2 w.uids ++ es) ≡ es =
      drop_at (bytes 2 w.tracks ++ bytes 2 w.uids) es 4 (four_bytes w.tracks w.uids) in
      let count : length es / 40 ≡ length w.entries = omega (arith, entries-size) in
      ap₂ (λ (x y : ℕ). whole x y (entries_in (drop 4 (bytes 2 w.tracks ++ bytes 2 w.uids ++ es))))
      (ap (number 2 0) (append_assoc (bytes 2 w.tracks) (bytes 2 w.uids) es) ∙ number-first (bytes 2 w.uids ++ es) w.tracks t)
      (number-mid (bytes 2 w.tracks) es 2 w.uids (bytes-length 2 w.tracks) u)
      ∙ ap (whole w.tracks w.uids)
      (ap entries_in rest ∙ ap (λ (n : ℕ). entries_at n es) count ∙ entries-back channels w.entries s.good)
