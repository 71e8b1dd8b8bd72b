-- The judgement and the scan by their parts, and what the code keeps of an accepted file; one law for each outcome.
-- Assumes nothing.
use mathlib.Core.Path.{◌≡◌, refl, sym, ap, ◌∙◌}
use mathlib.Core.List.{List}
use Prim.Native.Nat.{ℕ, ◌+◌, ◌-◌, ◌%◌, ◌≤◌}
use native.Mathlib.Omega.{arith}
use lib.ListN.{length, take, drop}
use lib.Dec.{eqb}
use borrow.Author.Tests.{eq-eqb, ne_eqb, eqb-true, eqb-false}
use Rattle.std.proofs.Common.{Option, None, Some}
use Rattle.le.specs.Number.{field}
use Rattle.chunk.specs.declared.Entry.{Entry}
use Rattle.chunk.specs.declared.Refusal.{Refusal}
use Rattle.chunk.specs.declared.Refusal.TheVariants.{RaggedAudio}
use Rattle.chunk.specs.Refusals.{Answer, Err, Ok, and_then}
use Rattle.chunk.specs.Names.{FMT, DATA, FACT}
use Rattle.chunk.specs.Tables.{count, find}
use Rattle.chunk.specs.Walks.{past}
use Rattle.chunk.proofs.Checks.{picked, check-true, check-false, and_then-at, and_then-refused}
use Rattle.chunk.proofs.Laid.{laid-lies}
use Rattle.chunk.proofs.Finds.{found}
use Rattle.fmt.specs.declared.Format.{Format}
use Rattle.fmt.specs.Formats.{format_in}
use Rattle.listing.specs.declared.Listing as code
use Rattle.wave.specs.declared.judgement.Accepted.{Accepted}
use Rattle.listing.specs.Listings.{Listing, listing}
use Rattle.wave.specs.Scans.{payload, whole_blocks, judged, Scan, scan}
use Rattle.listing.specs.Code.{payload_of, fact_in, kept_of, Fresh}
use Rattle.wave.specs.Code.{judge_of, known_of, examined_as, accepted_of}
use Rattle.listing.proofs.Checked.{listing-checked}
use Rattle.listing.proofs.Listings.{keeps}
use Rattle.wave.proofs.Scanned.{scan-scanned}

-- ---- what is judged

-- its fmt payload lies in the file
pub fmt-fits : (s : List ℕ) (k : code.Listing) → Fresh s k → k.fmt.place + k.fmt.size ≤ length s
unfolding kept_of payload_of past
fmt-fits s k f =
    let l = keeps s k f in
    let d = listing-checked s l.listing l.is in
    let y = laid-lies d.laid (found FMT l.listing.rows (omega (arith, d.chunked.one_fmt))).mem in
    omega (arith, y.ends, ap (λ (x : code.Listing). x.fmt.place) l.kept, ap (λ (x : code.Listing). x.fmt.size) l.kept)

-- ---- the judgement

-- the part of the file that the reader was handed is the fmt payload
pub fmt-part : (s : List ℕ) (place size : ℕ) → format_in (take (place + size - place) (drop place s)) ≡ format_in (field size place s)
unfolding field
fmt-part s place size = ap (λ (k : ℕ). format_in (take k (drop place s))) (let e : place + size - place ≡ size = omega arith in e)

module _ (l : code.Listing) (s : List ℕ) where
  abbrev fmtPart : List ℕ
  fmtPart = field l.fmt.size l.fmt.place s

  pub judge-fmt : (r : Refusal) → format_in fmtPart ≡ Err r → judge_of l s ≡ Err r
  unfolding judge_of judged
  judge-fmt r q = and_then-refused _ _ r q

  pub judge-ragged : (f : Format) → format_in fmtPart ≡ Ok f → (l.audio.size % f.block ≡ 0 → ⊥) → judge_of l s ≡ Err RaggedAudio
  unfolding judge_of judged whole_blocks
  judge-ragged f q k = and_then-at _ _ f q ∙ check-false _ _ _ (ne_eqb _ _ k)

  pub judge-good : (f : Format) → format_in fmtPart ≡ Ok f → l.audio.size % f.block ≡ 0 → judge_of l s ≡ Ok f
  unfolding judge_of judged whole_blocks
  judge-good f q k = and_then-at _ _ f q ∙ check-true _ _ _ (eq-eqb _ _ k)

-- ---- the scan

pub scan-listing : (s : List ℕ) (r : Refusal) → listing s ≡ Err r → scan s ≡ Err r
unfolding scan
scan-listing s r e = and_then-refused _ _ r e

-- of a listed file the scan is its judgement
pub scan-judge : (s : List ℕ) (l : Listing) → listing s ≡ Ok l
    → and_then (judge_of (kept_of s l) s) (λ f. Ok (known_of (kept_of s l) f)) ≡ examined_as s (scan s)
unfolding scan judge_of examined_as accepted_of kept_of payload_of payload and_then
scan-judge s l e =
    same (judged (payload (find FMT l.rows) s) (find DATA l.rows).size)
    ∙ sym (ap (examined_as s) (and_then-at (listing s) _ l e))
  where
    same : (x : Answer Format)
        → and_then x (λ f. Ok (known_of (kept_of s l) f))
        ≡ examined_as s (and_then x λ f. Ok (record { head = l.head; rows = l.rows; format = f }))
    same (Err r) = refl
    same (Ok f) = refl

-- ---- what an examination tells

pub examined-refused : (s : List ℕ) (x : Answer Scan) (r : Refusal) → examined_as s x ≡ Err r → x ≡ Err r
unfolding examined_as accepted_of
examined-refused s (Err q) r e = cc
examined-refused s (Ok a) r e = cc

-- the scan of an accepted file, and what the code knows of it
pub record Accepts (s : List ℕ) (x : Answer Scan) (k : Accepted) : Type 0 where
  pub scan : Scan
  pub is : x ≡ Ok scan
  pub known : k ≡ accepted_of s scan
  pub head : k.head ≡ scan.head
  pub fact : k.fact ≡ fact_in scan.rows
  pub count : k.count ≡ length scan.rows

pub examined-accepted : (s : List ℕ) (x : Answer Scan) (k : Accepted) → examined_as s x ≡ Ok k → Accepts s x k
unfolding examined_as accepted_of
examined-accepted s (Err q) k e = cc
examined-accepted s (Ok a) k e =
    let p : k ≡ accepted_of s a = cc in
    record {
      scan = a;
      is = refl;
      known = p;
      head = ap (λ (y : Accepted). y.head) p;
      fact = ap (λ (y : Accepted). y.fact) p;
      count = ap (λ (y : Accepted). y.count) p;
    }

-- ---- fact

pub fact-none : (rows : List Entry) → fact_in rows ≡ None → count FACT rows ≡ 0
unfolding fact_in
fact-none rows =
    picked P (eqb (count FACT rows) 0) _ _ (λ h _. eqb-true (count FACT rows) 0 h) λ _ e. cc
  where
    P : Option ℕ → Type 0
    P x = x ≡ None → count FACT rows ≡ 0

fact-there : (rows : List Entry) (p : ℕ) → fact_in rows ≡ Some p → (count FACT rows ≡ 0 → ⊥) × (p ≡ (find FACT rows).place)
unfolding fact_in
fact-there rows p =
    picked P (eqb (count FACT rows) 0) _ _ (λ _ e. cc) λ h e.
    (eqb-false (count FACT rows) 0 h, cc)
  where
    P : Option ℕ → Type 0
    P x = x ≡ Some p → (count FACT rows ≡ 0 → ⊥) × (p ≡ (find FACT rows).place)

-- fact's payload starts at a place, and its first 4 bytes are there
pub record FactAt (s : List ℕ) (a : Scan) (p : ℕ) : Type 0 where
  pub there : count FACT a.rows ≡ 0 → ⊥
  pub place : p ≡ (find FACT a.rows).place
  pub inside : p + 4 ≤ length s

pub fact-at : (s : List ℕ) (a : Scan) (p : ℕ) → scan s ≡ Ok a → fact_in a.rows ≡ Some p → FactAt s a p
unfolding past
fact-at s a p e q =
    let t = fact-there a.rows p q in
    let n : count FACT a.rows ≡ 0 → ⊥ = t.0 in
    let l = (scan-scanned s a e).listed in
    let y = laid-lies l.laid (found FACT a.rows (omega (arith, n))).mem in
    record { there = n; place = t.1; inside = omega (arith, t.1, y.ends, l.chunked.fact_holds n) }
