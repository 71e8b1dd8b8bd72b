-- Document 01, "bext" (001 4.3): the record that a payload holds, or 13.
use Rattle.std.specs.Prelude.{ℕ, Bool, true, false, not, ◌||◌, List, [], ◌∷◌, length, drop, replicate, eqb, leb}
use Rattle.le.specs.Number.{field, number}
use Rattle.le.specs.Choice.{every}
use Rattle.chunk.specs.declared.Refusal.TheVariants.{BadBext}
use Rattle.chunk.specs.Refusals.{Answer, Err, Ok, check}
use Rattle.bext_parts.specs.Parts.{all_zero, text_of, text_good, date_good, time_good, set_of, rest_good}
use Rattle.bext.specs.declared.Bext.{Bext}

-- ---- the record

-- A record whole. An empty date or time is "not set". The history is all the bytes from 602 to the end: its text, and the
-- zeros after it, if any.
pub record Whole : Type 0 where
  pub description : List ℕ
  pub originator : List ℕ
  pub reference : List ℕ
  pub date : List ℕ
  pub time : List ℕ
  pub timeref : ℕ
  pub version : ℕ
  pub rest : List ℕ
  pub history : List ℕ

-- ---- reading

-- the rules of a payload of "at least 602 bytes": "Description 256, Originator 32, Reference 32, date 10, time 8,
-- TimeReference low 4 and high 4, Version 2, then 254 bytes, then the coding history to the end"
unfoldable pub rules_of : List ℕ → List Bool
rules_of p =
    leb 602 (length p)
    ∷ text_good (field 256 0 p)
    ∷ text_good (field 32 256 p)
    ∷ text_good (field 32 288 p)
    ∷ (all_zero (field 10 320 p) || date_good (field 10 320 p))
    ∷ (all_zero (field 8 330 p) || time_good (field 8 330 p))
    ∷ rest_good (number 2 346 p) (field 254 348 p)
    ∷ text_good (drop 602 p)
    ∷ []

-- what a payload holds, judged by nothing
unfoldable pub whole_in : List ℕ → Whole
whole_in p =
    record {
      description = text_of (field 256 0 p);
      originator = text_of (field 32 256 p);
      reference = text_of (field 32 288 p);
      date = set_of (field 10 320 p);
      time = set_of (field 8 330 p);
      timeref = number 8 338 p;
      version = number 2 346 p;
      rest = field 254 348 p;
      history = drop 602 p;
    }

-- the record that a payload holds, or 13
unfoldable pub bext_in : List ℕ → Answer Whole
unfolding check
bext_in p = check (every (rules_of p)) BadBext (Ok (whole_in p))

-- the record by numbers: how long each text is, and whether date and time are set
unfoldable pub numbers_of : Whole → Bext
numbers_of w =
    record {
      description_len = length w.description;
      originator_len = length w.originator;
      reference_len = length w.reference;
      date_set = not (eqb (length w.date) 0);
      time_set = not (eqb (length w.time) 0);
      timeref = w.timeref;
      version = w.version;
      history_len = length (text_of w.history);
    }

-- what the reader answers
unfoldable pub read_as : Answer Whole → Answer Bext
read_as (Err r) = Err r
read_as (Ok w) = Ok (numbers_of w)

unfoldable pub flag_of : Bool → ℕ
flag_of true = 1
flag_of false = 0

-- its values: the lengths of description, originator and reference text, 1 or 0 for date set and time set, the time reference,
-- the version, the length of the history's text; or zeros
unfoldable pub bext_values : Answer Bext → List ℕ
bext_values (Ok b) =
    b.description_len ∷ b.originator_len ∷ b.reference_len ∷ flag_of b.date_set ∷ flag_of b.time_set ∷ b.timeref ∷ b.version ∷ b.history_len ∷ []
bext_values (Err r) = replicate 8 0
