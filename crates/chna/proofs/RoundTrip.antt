-- Reading and writing chna, one after the other: the record that was written is read back, and a payload that was read is
-- written again but for its pads.
-- Assumes nothing.
use mathlib.Core.Path.{◌≡◌, refl, sym, ap, ap₂, ◌∙◌, subst}
use mathlib.Core.Bool.{true}
use mathlib.Core.List.{List, [], ◌∷◌, ◌++◌}
use Prim.Native.Nat.{ℕ, ◌-◌, ◌%◌, ◌≤◌}
use native.Mathlib.Omega.{arith}
use lib.ListN.{length, take, drop, replicate, length-drop}
use lib.Seq.{take-add}
use lib.Dec.{eqb}
use borrow.Author.Tests.{leb-true, eq-eqb, eqb-true}
use Rattle.le.specs.Number.{Bytes, bytes, field, number, value}
use Rattle.chunk.specs.declared.Refusal.{Refusal}
use Rattle.chunk.specs.declared.Refusal.TheVariants.{BadChna, BadRecord}
use Rattle.chunk.specs.Refusals.{Err, Ok, check}
use Rattle.chunk.specs.Writes.{Writes}
use Rattle.chunk.proofs.Checks.{given-inj, check-given, check-true, and-true}
use Rattle.chunk.proofs.Outputs.{wrote, refusal-keeps}
use Rattle.chna_entry.specs.Ids.{is_hex, fits_one, fits, codes}
use Rattle.chna_entry.specs.Entries.{entry_in, entry_good, used_in, used_good}
use Rattle.chna.specs.Records.{entries_in, entries_at, entries_good, indices, different, occurs, pads_at, Whole, whole_of, whole_in, whole_good, length_good, chna_in, payload_of, chna_out, chna_from, pads_off, pads_zeroed}
use Rattle.chna.proofs.Answers.{good-record, accepted}
use Rattle.chna.proofs.Back.{payload-length, payload-back, Sound, sound}
use Rattle.le.proofs.Laws.{Bytes-drop, bytes-number}
use Rattle.chna.proofs.Payloads.{payload-bytes}

-- ---- writing, then reading

-- whatever is written reads back as the record given
pub written-reads-back : (channels : ℕ) (w : Whole) (bs : List ℕ) → chna_out channels w ≡ Ok bs → chna_in channels bs ≡ Ok w
unfolding chna_out
written-reads-back channels w bs e =
    let f = check-given (whole_good channels w) BadRecord _ bs e in
    ap (chna_in channels) (sym (given-inj (payload_of w) bs f.1))
    ∙ good-record channels (payload_of w) (payload-length channels w f.0) (ap (whole_good channels) (payload-back channels w f.0) ∙ f.0)
    ∙ ap Ok (payload-back channels w f.0)

-- so does what the writer makes of two counts and the bytes of the entries
pub bytes-read-back : (channels tracks uids : ℕ) (s bs : List ℕ) → chna_from channels tracks uids s ≡ Ok bs
    → chna_in channels bs ≡ Ok (whole_of tracks uids s)
unfolding chna_from
bytes-read-back channels tracks uids s bs e =
    written-reads-back channels (whole_of tracks uids s) bs (check-given (eqb (length s % 40) 0) BadRecord _ bs e).1

-- and the bytes that the writer says it wrote
pub output-reads-back : (channels tracks uids : ℕ) (s entry exit : List ℕ) (n : ℕ)
    → Writes (chna_from channels tracks uids s) entry exit (Ok n)
    → chna_in channels (take n exit) ≡ Ok (whole_of tracks uids s)
output-reads-back channels tracks uids s entry exit n w =
    bytes-read-back channels tracks uids s (take n exit) (wrote _ entry exit n w).is_given

-- a writer that refuses leaves its output as it was
pub refusal-changes-nothing : (channels tracks uids : ℕ) (s entry exit : List ℕ) (r : Refusal)
    → Writes (chna_from channels tracks uids s) entry exit (Err r) → exit ≡ entry
refusal-changes-nothing channels tracks uids s entry exit r w = refusal-keeps _ entry exit r w

-- ---- reading, then writing

-- four bytes are the two counts
counts : (p : List ℕ) → Bytes p → 4 ≤ length p → bytes 2 (number 2 0 p) ++ bytes 2 (number 2 2 p) ≡ take 4 p
unfolding field
counts p h n =
    ap₂ (λ (a b : List ℕ). a ++ b) (bytes-number 2 0 p h (omega arith)) (bytes-number 2 2 p h (omega arith))
    ∙ sym (take-add 2 2 p)

long : (n : ℕ) → length_good n ≡ true → (4 ≤ n) × ((n - 4) % 40 ≡ 0)
unfolding length_good
long n e = let both = and-true _ _ e in (leb-true 4 n both.0, eqb-true ((n - 4) % 40) 0 both.1)

-- reading then writing gives the same bytes but for the pads
pub read-writes-back : (channels : ℕ) (p : List ℕ) (w : Whole) → Bytes p → chna_in channels p ≡ Ok w
    → chna_out channels w ≡ Ok (pads_zeroed p)
unfolding chna_out whole_in pads_zeroed
read-writes-back channels p w h e =
    let a = accepted channels p w e in
    let n = long (length p) a.long in
    subst (λ (x : Whole). chna_out channels x ≡ Ok (pads_zeroed p)) a.is
    (check-true (whole_good channels (whole_in p)) BadRecord _ a.good
    ∙ ap Ok
    (payload-bytes (number 2 0 p) (number 2 2 p) (drop 4 p) (Bytes-drop 4 p h) (omega (arith, length-drop 4 p, n.1))
    ∙ ap (λ (l : List ℕ). l ++ pads_off (drop 4 p)) (counts p h n.0)))

-- also from the counts and the entries' bytes, as the code's writer takes them
pub read-then-written : (channels : ℕ) (p : List ℕ) (w : Whole) → Bytes p → chna_in channels p ≡ Ok w
    → chna_from channels w.tracks w.uids (drop 4 p) ≡ Ok (pads_zeroed p)
unfolding chna_from whole_in whole_of
read-then-written channels p w h e =
    let a = accepted channels p w e in
    let whole : length (drop 4 p) % 40 ≡ 0 = omega (arith, length-drop 4 p, (long (length p) a.long).1) in
    check-true _ BadRecord _ (eq-eqb (length (drop 4 p) % 40) 0 whole)
    ∙ ap (chna_out channels) (subst (λ (x : Whole). whole_of x.tracks x.uids (drop 4 p) ≡ x) a.is refl)
    ∙ read-writes-back channels p w h e

-- so a payload with its pads zeroed holds the same record
pub pads-zeroed-reads : (channels : ℕ) (p : List ℕ) (w : Whole) → Bytes p → chna_in channels p ≡ Ok w
    → chna_in channels (pads_zeroed p) ≡ Ok w
pads-zeroed-reads channels p w h e = written-reads-back channels w (pads_zeroed p) (read-writes-back channels p w h e)

-- and an accepted payload has just one record
pub one-record : (channels : ℕ) (p : List ℕ) (w v : Whole) → Bytes p → chna_in channels p ≡ Ok w
    → chna_out channels v ≡ Ok (pads_zeroed p) → v ≡ w
one-record channels p w v h e f =
    given-inj v w (sym (written-reads-back channels v (pads_zeroed p) f) ∙ pads-zeroed-reads channels p w h e)

-- The pad of an entry that is zero but for it is not ignored: such an entry is a used one with index 0. So what zeroing the
-- pads keeps is said of accepted payloads alone.
abbrev pub stray : List ℕ
stray = replicate 43 0 ++ (1 ∷ [])

pub stray-pad : chna_in 1 stray ≡ Err BadChna
unfolding chna_in check whole_in whole_of whole_good length_good entries_in entries_at entries_good entry_in entry_good used_in used_good indices different occurs fits fits_one is_hex codes number field value
stray-pad = refl

pub stray-zeroed : chna_in 1 (pads_zeroed stray) ≡ Ok (whole_of 0 0 (replicate 40 0))
unfolding chna_in check whole_in whole_of whole_good length_good entries_in entries_at entries_good entry_in entry_good used_in used_good indices different occurs fits fits_one is_hex codes number field value pads_zeroed pads_off pads_at
stray-zeroed = refl

-- the counts of an accepted payload are those of its entries
pub counts-are : (channels : ℕ) (p : List ℕ) (w : Whole) → chna_in channels p ≡ Ok w → Sound channels w
counts-are channels p w e =
    let a = accepted channels p w e in
    sound channels w (subst (λ (x : Whole). whole_good channels x ≡ true) a.is a.good)
