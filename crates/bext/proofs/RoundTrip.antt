-- A payload and its record, both ways: what is written reads back as the record given, what is read writes back as the
-- same bytes, and so an accepted payload has one record, and a record one payload.
-- Assumes nothing.
use mathlib.Core.Path.{◌≡◌, refl, sym, ap, ap₂, ◌∙◌}
use mathlib.Core.Bool.{true, ◌||◌}
use mathlib.Core.List.{List, ◌++◌, append_assoc}
use Prim.Native.Nat.{ℕ, ◌+◌, ◌^◌, ◌≤◌}
use native.Mathlib.Omega.{arith}
use borrow.Author.Tests.{le-leb, leb-true, lt-ltb, ltb-true, eq-eqb}
use lib.ListN.{length, take, drop, take-append-drop}
use lib.Seq.{take_at, drop_at, drop-drop, take-add}
use lib.Dec.{eqb, leb, lit≤}
use Rattle.le.specs.Number.{Bytes, bytes, field, number, value}
use Rattle.le.specs.Choice.{every}
use Rattle.le.proofs.Laws.{value-bytes, bytes-number, bytes-length, field-length, number_bound}
use Rattle.chunk.specs.declared.Refusal.TheVariants.{BadBext, BadRecord}
use Rattle.chunk.specs.Refusals.{Ok}
use Rattle.chunk.specs.Writes.{Writes}
use Rattle.chunk.proofs.Outputs.{wrote}
use Rattle.chunk.proofs.Checks.{given-inj, check-given, check-true, and-true}
use Rattle.bext_parts.specs.Parts.{all_zero, text_of, text_good, date_good, time_good, rest_good, text_given, date_given, time_given, rest_given, padded}
use Rattle.bext_parts.proofs.Texts.{text-short, text-again, text-whole, padded-text, padded-good, text-back}
use Rattle.bext_parts.proofs.Stamps.{Back, Forth, back, forth, date-set, time-set}
use Rattle.bext.specs.Records.{Whole, rules_of, whole_in, bext_in}
use Rattle.bext.specs.Writing.{writable, laid, bext_out}
use Rattle.bext.specs.Code.{Fitting}
use Rattle.bext.proofs.Stores.{padded-length, laid-length, front1}
use Rattle.bext.proofs.Outs.{Good, good, all-good, good-fits}

-- ---- what is written is read back

-- the part at a place, and what stands behind it
cut_field : (n at : ℕ) (p y z : List ℕ) → drop at p ≡ y ++ z → length y ≡ n → field n at p ≡ y
unfolding field
cut_field n at p y z e l = ap (take n) e ∙ take_at y z n l

cut-drop : (n at : ℕ) (p y z : List ℕ) → drop at p ≡ y ++ z → length y ≡ n → drop (at + n) p ≡ z
cut-drop n at p y z e l = sym (drop-drop n at p) ∙ ap (drop n) e ∙ drop_at y z n l

-- a payload from each part on
abbrev tail9 : Whole → List ℕ
tail9 w = w.history

abbrev tail8 : Whole → List ℕ
tail8 w = w.rest ++ tail9 w

abbrev tail7 : Whole → List ℕ
tail7 w = bytes 2 w.version ++ tail8 w

abbrev tail6 : Whole → List ℕ
tail6 w = bytes 8 w.timeref ++ tail7 w

abbrev tail5 : Whole → List ℕ
tail5 w = padded 8 w.time ++ tail6 w

abbrev tail4 : Whole → List ℕ
tail4 w = padded 10 w.date ++ tail5 w

abbrev tail3 : Whole → List ℕ
tail3 w = padded 32 w.reference ++ tail4 w

abbrev tail2 : Whole → List ℕ
tail2 w = padded 32 w.originator ++ tail3 w

abbrev tail1 : Whole → List ℕ
tail1 w = padded 256 w.description ++ tail2 w

module _ (w : Whole) (fit : Fitting w) where
  from1 : drop 0 (laid w) ≡ tail1 w
  unfolding laid
  from1 = simp append_assoc

  part1 : field 256 0 (laid w) ≡ padded 256 w.description
  part1 = cut_field 256 0 (laid w) (padded 256 w.description) (tail2 w) from1 (padded-length 256 w.description fit.description_fits)

  from2 : drop 256 (laid w) ≡ tail2 w
  from2 = cut-drop 256 0 (laid w) (padded 256 w.description) (tail2 w) from1 (padded-length 256 w.description fit.description_fits)

  part2 : field 32 256 (laid w) ≡ padded 32 w.originator
  part2 = cut_field 32 256 (laid w) (padded 32 w.originator) (tail3 w) from2 (padded-length 32 w.originator fit.originator_fits)

  from3 : drop 288 (laid w) ≡ tail3 w
  from3 = cut-drop 32 256 (laid w) (padded 32 w.originator) (tail3 w) from2 (padded-length 32 w.originator fit.originator_fits)

  part3 : field 32 288 (laid w) ≡ padded 32 w.reference
  part3 = cut_field 32 288 (laid w) (padded 32 w.reference) (tail4 w) from3 (padded-length 32 w.reference fit.reference_fits)

  from4 : drop 320 (laid w) ≡ tail4 w
  from4 = cut-drop 32 288 (laid w) (padded 32 w.reference) (tail4 w) from3 (padded-length 32 w.reference fit.reference_fits)

  part4 : field 10 320 (laid w) ≡ padded 10 w.date
  part4 = cut_field 10 320 (laid w) (padded 10 w.date) (tail5 w) from4 (padded-length 10 w.date fit.date_fits)

  from5 : drop 330 (laid w) ≡ tail5 w
  from5 = cut-drop 10 320 (laid w) (padded 10 w.date) (tail5 w) from4 (padded-length 10 w.date fit.date_fits)

  part5 : field 8 330 (laid w) ≡ padded 8 w.time
  part5 = cut_field 8 330 (laid w) (padded 8 w.time) (tail6 w) from5 (padded-length 8 w.time fit.time_fits)

  from6 : drop 338 (laid w) ≡ tail6 w
  from6 = cut-drop 8 330 (laid w) (padded 8 w.time) (tail6 w) from5 (padded-length 8 w.time fit.time_fits)

  part6 : field 8 338 (laid w) ≡ bytes 8 w.timeref
  part6 = cut_field 8 338 (laid w) (bytes 8 w.timeref) (tail7 w) from6 (bytes-length 8 w.timeref)

  from7 : drop 346 (laid w) ≡ tail7 w
  from7 = cut-drop 8 338 (laid w) (bytes 8 w.timeref) (tail7 w) from6 (bytes-length 8 w.timeref)

  part7 : field 2 346 (laid w) ≡ bytes 2 w.version
  part7 = cut_field 2 346 (laid w) (bytes 2 w.version) (tail8 w) from7 (bytes-length 2 w.version)

  from8 : drop 348 (laid w) ≡ tail8 w
  from8 = cut-drop 2 346 (laid w) (bytes 2 w.version) (tail8 w) from7 (bytes-length 2 w.version)

  part8 : field 254 348 (laid w) ≡ w.rest
  part8 = cut_field 254 348 (laid w) w.rest (tail9 w) from8 fit.rest_fits

  from9 : drop 602 (laid w) ≡ tail9 w
  from9 = cut-drop 254 348 (laid w) w.rest (tail9 w) from8 fit.rest_fits

module _ (w : Whole) (g : Good w) where
  fits : Fitting w
  fits = good-fits w g

  date-back : Back date_good 10 w.date
  unfolding date_given
  date-back = back date_good 10 date-set w.date g.date

  time-back : Back time_good 8 w.time
  unfolding time_given
  time-back = back time_good 8 time-set w.time g.time

  timeref-back : number 8 338 (laid w) ≡ w.timeref
  unfolding number
  timeref-back = ap value (part6 w fits) ∙ value-bytes 8 w.timeref (ltb-true w.timeref (256 ^ 8) g.timeref)

  version-back : number 2 346 (laid w) ≡ w.version
  unfolding number
  version-back = ap value (part7 w fits) ∙ value-bytes 2 w.version (ltb-true w.version (256 ^ 2) g.version)

  rules-back : every (rules_of (laid w)) ≡ true
  unfolding every rules_of rest_given
  rules-back =
      rw (
        le-leb 602 (length (laid w)) (omega (arith, laid-length w fits)),
        part1 w fits,
        padded-good 256 w.description (text-whole 256 w.description g.description),
        part2 w fits,
        padded-good 32 w.originator (text-whole 32 w.originator g.originator),
        part3 w fits,
        padded-good 32 w.reference (text-whole 32 w.reference g.reference),
        part4 w fits,
        date-back.holds,
        part5 w fits,
        time-back.holds,
        version-back,
        part8 w fits,
        (and-true (eqb (length w.rest) 254) (rest_good w.version w.rest) g.rest).1,
        from9 w fits,
        g.history,
      )

  whole_back : whole_in (laid w) ≡ w
  unfolding whole_in
  whole_back =
      rw (
        part1 w fits,
        padded-text 256 w.description (text-whole 256 w.description g.description),
        part2 w fits,
        padded-text 32 w.originator (text-whole 32 w.originator g.originator),
        part3 w fits,
        padded-text 32 w.reference (text-whole 32 w.reference g.reference),
        part4 w fits,
        date-back.is,
        part5 w fits,
        time-back.is,
        timeref-back,
        version-back,
        part8 w fits,
        from9 w fits,
      )

pub reads-back : (w : Whole) (p : List ℕ) → bext_out w ≡ Ok p → bext_in p ≡ Ok w
unfolding bext_out bext_in
reads-back w p e =
    let b = check-given (writable w) BadRecord (Ok (laid w)) p e in
    let g = good w b.0 in
    let q : laid w ≡ p = given-inj (laid w) p b.1 in
    rw (← q) (check-true (every (rules_of (laid w))) BadBext (Ok (whole_in (laid w))) (rules-back w g) ∙ ap Ok (whole_back w g))

-- ---- what is read is written back

-- a payload's front, a part longer
join : (n m : ℕ) (p x y : List ℕ) → x ≡ take n p → y ≡ field m n p → x ++ y ≡ take (n + m) p
unfolding field
join n m p x y e f = ap₂ ◌++◌ e f ∙ sym (take-add n m p)

-- the rules of a payload, one by one
record Rules (p : List ℕ) : Type 0 where
  long : leb 602 (length p) ≡ true
  description : text_good (field 256 0 p) ≡ true
  originator : text_good (field 32 256 p) ≡ true
  reference : text_good (field 32 288 p) ≡ true
  date : (all_zero (field 10 320 p) || date_good (field 10 320 p)) ≡ true
  time : (all_zero (field 8 330 p) || time_good (field 8 330 p)) ≡ true
  rest : rest_good (number 2 346 p) (field 254 348 p) ≡ true
  history : text_good (drop 602 p) ≡ true

rules : (p : List ℕ) → every (rules_of p) ≡ true → Rules p
unfolding every rules_of
rules p e =
    record {
      long = grind arith;
      description = grind arith;
      originator = grind arith;
      reference = grind arith;
      date = grind arith;
      time = grind arith;
      rest = grind arith;
      history = grind arith;
    }

-- the text of bytes is given as a text is to be
text-given : (n at : ℕ) (p : List ℕ) → at + n ≤ length p → text_given n (text_of (field n at p)) ≡ true
unfolding text_given
text-given n at p h =
    rw (
      le-leb (length (text_of (field n at p))) n (omega (arith, text-short (field n at p), field-length n at p h)),
      eq-eqb (length (text_of (text_of (field n at p)))) (length (text_of (field n at p))) (text-again (field n at p)),
    )

module _ (p : List ℕ) (bs : Bytes p) (r : Rules p) where
  long : 602 ≤ length p
  long = leb-true 602 (length p) r.long

  date-forth : Forth date_good 10 (field 10 320 p)
  date-forth = forth date_good 10 date-set (field 10 320 p) (field-length 10 320 p (omega (arith, long))) r.date

  time-forth : Forth time_good 8 (field 8 330 p)
  time-forth = forth time_good 8 time-set (field 8 330 p) (field-length 8 330 p (omega (arith, long))) r.time

  good-forth : Good (whole_in p)
  unfolding whole_in date_given time_given rest_given
  good-forth =
      record {
        timeref = lt-ltb (number 8 338 p) (256 ^ 8) (number_bound 8 338 p bs);
        description = text-given 256 0 p (omega (arith, long));
        originator = text-given 32 256 p (omega (arith, long));
        reference = text-given 32 288 p (omega (arith, long));
        date = date-forth.holds;
        time = time-forth.holds;
        version = lt-ltb (number 2 346 p) (256 ^ 2) (number_bound 2 346 p bs);
        rest = rw (eq-eqb (length (field 254 348 p)) 254 (field-length 254 348 p (omega (arith, long)))) r.rest;
        history = r.history;
      }

  text-forth : (n at : ℕ) → at + n ≤ 602 → text_good (field n at p) ≡ true → padded n (text_of (field n at p)) ≡ field n at p
  text-forth n at h e = text-back n (field n at p) (field-length n at p (omega (arith, long))) e

  laid-forth : laid (whole_in p) ≡ p
  unfolding laid whole_in field
  laid-forth =
      let j1 : front1 (whole_in p) ≡ take 256 p = text-forth 256 0 (lit≤ tt) r.description in
      let j2 = join 256 32 p _ _ j1 (text-forth 32 256 (lit≤ tt) r.originator) in
      let j3 = join 288 32 p _ _ j2 (text-forth 32 288 (lit≤ tt) r.reference) in
      let j4 = join 320 10 p _ _ j3 date-forth.is in
      let j5 = join 330 8 p _ _ j4 time-forth.is in
      let j6 = join 338 8 p _ _ j5 (bytes-number 8 338 p bs (omega (arith, long))) in
      let j7 = join 346 2 p _ _ j6 (bytes-number 2 346 p bs (omega (arith, long))) in
      let j8 = join 348 254 p _ (field 254 348 p) j7 refl in
      ap (λ l. l ++ drop 602 p) j8 ∙ take-append-drop 602 p

pub writes-back : (p : List ℕ) → Bytes p → (w : Whole) → bext_in p ≡ Ok w → bext_out w ≡ Ok p
unfolding bext_out bext_in
writes-back p bs w e =
    let b = check-given (every (rules_of p)) BadBext (Ok (whole_in p)) w e in
    let r = rules p b.0 in
    let q : whole_in p ≡ w = given-inj (whole_in p) w b.1 in
    rw (← q) (check-true (writable (whole_in p)) BadRecord (Ok (laid (whole_in p))) (all-good (whole_in p) (good-forth p bs r)) ∙ ap Ok (laid-forth p bs r))

-- ---- one record, one payload

-- an accepted payload has exactly one record
pub one-record : (p : List ℕ) (v w : Whole) → bext_in p ≡ Ok v → bext_in p ≡ Ok w → v ≡ w
one-record p v w e f = given-inj v w (sym e ∙ f)

-- two payloads of one record are the same bytes
pub one-payload : (p q : List ℕ) → Bytes p → Bytes q → (w : Whole) → bext_in p ≡ Ok w → bext_in q ≡ Ok w → p ≡ q
one-payload p q bp bq w e f = given-inj p q (sym (writes-back p bp w e) ∙ writes-back q bq w f)

-- ---- what the writer leaves in its output

-- the bytes that it says it wrote are a payload that reads back as the record given
pub written-reads-back : (w : Whole) (entry exit : List ℕ) (n : ℕ) → Writes (bext_out w) entry exit (Ok n)
    → bext_in (take n exit) ≡ Ok w
written-reads-back w entry exit n wrote_it = reads-back w (take n exit) (wrote (bext_out w) entry exit n wrote_it).is_given
