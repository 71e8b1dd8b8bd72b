-- A record that could have been read: its rules one by one, that its parts fit their places, and the payload to write.
-- Assumes nothing.
use mathlib.Core.Path.{◌≡◌}
use mathlib.Core.Bool.{true, false}
use Prim.Native.Nat.{◌^◌}
use native.Mathlib.Omega.{arith}
use borrow.Author.Tests.{eqb-true}
use lib.ListN.{length}
use lib.Dec.{eqb, ltb}
use Rattle.chunk.specs.declared.Refusal.TheVariants.{BadRecord}
use Rattle.chunk.specs.Refusals.{Err, Ok}
use Rattle.chunk.proofs.Checks.{and-true, check-true, check-false}
use Rattle.bext_parts.specs.Parts.{text_good, date_good, time_good, rest_good, text_given, date_given, time_given, rest_given}
use Rattle.bext_parts.proofs.Texts.{text-fits}
use Rattle.bext_parts.proofs.Stamps.{length-given}
use Rattle.bext.specs.Records.{Whole}
use Rattle.bext.specs.Writing.{writable, laid, bext_out}
use Rattle.bext.specs.Code.{Fitting}

-- ---- the rules, one by one

pub record Good (w : Whole) : Type 0 where
  pub timeref : ltb w.timeref (256 ^ 8) ≡ true
  pub description : text_given 256 w.description ≡ true
  pub originator : text_given 32 w.originator ≡ true
  pub reference : text_given 32 w.reference ≡ true
  pub date : date_given w.date ≡ true
  pub time : time_given w.time ≡ true
  pub version : ltb w.version (256 ^ 2) ≡ true
  pub rest : rest_given w.version w.rest ≡ true
  pub history : text_good w.history ≡ true

pub good : (w : Whole) → writable w ≡ true → Good w
unfolding writable
good w e =
    record {
      timeref = grind arith;
      description = grind arith;
      originator = grind arith;
      reference = grind arith;
      date = grind arith;
      time = grind arith;
      version = grind arith;
      rest = grind arith;
      history = grind arith;
    }

pub all-good : (w : Whole) → Good w → writable w ≡ true
unfolding writable
all-good w g =
    rw (g.timeref, g.description, g.originator, g.reference, g.date, g.time, g.version, g.rest, g.history)

-- ---- the parts fit

pub good-fits : (w : Whole) → Good w → Fitting w
unfolding date_given time_given rest_given
good-fits w g =
    record {
      description_fits = text-fits 256 w.description g.description;
      originator_fits = text-fits 32 w.originator g.originator;
      reference_fits = text-fits 32 w.reference g.reference;
      date_fits = length-given (length w.date) 10 (date_good w.date) g.date;
      time_fits = length-given (length w.time) 8 (time_good w.time) g.time;
      rest_fits = eqb-true (length w.rest) 254 (and-true (eqb (length w.rest) 254) (rest_good w.version w.rest) g.rest).0;
    }

pub writable_fits : (w : Whole) → writable w ≡ true → Fitting w
writable_fits w e = good-fits w (good w e)

-- ---- the payload to write

pub out-refused : (w : Whole) → writable w ≡ false → bext_out w ≡ Err BadRecord
unfolding bext_out
out-refused w e = check-false (writable w) BadRecord (Ok (laid w)) e

pub out-given : (w : Whole) → writable w ≡ true → bext_out w ≡ Ok (laid w)
unfolding bext_out
out-given w e = check-true (writable w) BadRecord (Ok (laid w)) e
