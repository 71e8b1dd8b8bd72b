-- What the writers are asked for: a format record in nine words; and no payload is empty.
-- Assumes nothing.
use mathlib.Core.Path.{◌≡◌, refl, sym, ◌∙◌, ap}
use mathlib.Core.Bool.{Bool, true, false}
use mathlib.Core.List.{List}
use Prim.Native.Nat.{ℕ, ◌%◌, ◌≤◌}
use native.Mathlib.Omega.{arith}
use lib.ListN.{length, length-append}
use lib.Dec.{eqb}
use Rattle.le.specs.Number.{bytes}
use Rattle.le.specs.Choice.{pick}
use Rattle.le.proofs.Laws.{bytes-length}
use Rattle.chunk.specs.declared.Refusal.{Refusal}
use Rattle.chunk.specs.declared.Refusal.TheVariants.{BadRecord}
use Rattle.chunk.specs.Refusals.{Answer, Err, Ok, check}
use Rattle.chunk.proofs.Checks.{given-inj, check-given, check-true, check-false}
use Rattle.fmt.specs.declared.Format.{Format}
use Rattle.fmt.specs.Writing.{head_bytes, format_bytes, writable, format_out}
use Rattle.chna.specs.Records.{Whole as Chna, whole_of, whole_good, payload_of, chna_out, chna_from}
use Rattle.bext.specs.Records.{Whole as Bext}
use Rattle.bext.specs.Writing.{laid, bext_out, writable as bextWritable}
use Rattle.words.proofs.Written.{Filled}
use Rattle.std.specs.Prelude.{Some, None}
use Rattle.records.specs.Writing.{format_of, given_in, of_nine}

-- ---- nine words

pub other : (w : List ℕ) (k : Format → Answer (List ℕ)) → given_in w ≡ None → of_nine w k ≡ Err BadRecord
unfolding of_nine given_in pick
other w k e = check-false _ _ _ (cases (eqb (length w) 9) e)
  where
    cases : (b : Bool) → pick b (Some (format_of w)) None ≡ None → b ≡ false
    cases true e = absurd (let z : ◌≡◌ {A = ℕ} 0 1 = cc in omega arith)
    cases false e = refl

pub nine : (w : List ℕ) (k : Format → Answer (List ℕ)) (f : Format) → given_in w ≡ Some f → of_nine w k ≡ k f
unfolding of_nine given_in pick
nine w k f e = let n = cases (eqb (length w) 9) e in check-true _ _ _ n.0 ∙ sym (ap k n.1)
  where
    cases : (b : Bool) → pick b (Some (format_of w)) None ≡ Some f → (b ≡ true) × (f ≡ format_of w)
    cases true e = (refl, cc)
    cases false e = absurd (let z : ◌≡◌ {A = ℕ} 0 1 = cc in omega arith)

-- ---- what is written is not empty

pub whole : (xs : List ℕ) → 1 ≤ length xs → Filled (Ok xs)
whole xs h bs e = let q : xs ≡ bs = given-inj xs bs e in omega (arith, h, ap length q)

pub checked : (b : Bool) (r : Refusal) (k : Answer (List ℕ)) → Filled k → Filled (check b r k)
checked b r k h bs e = h bs (check-given b r k bs e).1

pub nine-filled : (w : List ℕ) (k : Format → Answer (List ℕ)) → ((f : Format) → Filled (k f)) → Filled (of_nine w k)
unfolding of_nine
nine-filled w k h = checked (eqb (length w) 9) BadRecord (k (format_of w)) (h (format_of w))

format-long : (f : Format) → 1 ≤ length (format_bytes f)
unfolding format_bytes head_bytes bytes
format-long f = omega arith

pub fmt-filled : (f : Format) → Filled (format_out f)
unfolding format_out
fmt-filled f = checked (writable f) BadRecord (Ok (format_bytes f)) (whole (format_bytes f) (format-long f))

chna-long : (w : Chna) → 1 ≤ length (payload_of w)
unfolding payload_of bytes
chna-long w = omega arith

pub chna-filled : (channels tracks uids : ℕ) (s : List ℕ) → Filled (chna_from channels tracks uids s)
unfolding chna_from chna_out
chna-filled channels tracks uids s =
    let w = whole_of tracks uids s in
    checked (eqb (length s % 40) 0) BadRecord (chna_out channels w)
    (checked (whole_good channels w) BadRecord (Ok (payload_of w)) (whole (payload_of w) (chna-long w)))

bext-long : (w : Bext) → 1 ≤ length (laid w)
unfolding laid
bext-long w = simp length-append (omega (arith, bytes-length 2 w.version))

pub bext-filled : (w : Bext) → Filled (bext_out w)
unfolding bext_out
bext-filled w = checked (bextWritable w) BadRecord (Ok (laid w)) (whole (laid w) (bext-long w))
