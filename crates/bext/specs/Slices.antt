-- The parts of a payload, judged by nothing: those of its record, or none where it is too short to have any.
use Rattle.std.specs.Prelude.{ℕ, ◌≡◌, List, [], length, leb}
use Rattle.le.specs.Number.{field}
use Rattle.le.specs.Choice.{pick}
use Rattle.bext.specs.declared.parts.Parts.{Parts}
use Rattle.bext.specs.Records.{Whole, whole_in}

-- the record that parts are, as they stand
unfoldable pub whole_of : Parts → Whole
whole_of p =
    record {
      description = p.description.now;
      originator = p.originator.now;
      reference = p.reference.now;
      date = p.date.now;
      time = p.time.now;
      timeref = p.timeref;
      version = p.version;
      rest = p.rest.now;
      history = p.history.now;
    }

unfoldable pub no_parts : Whole
no_parts =
    record {
      description = [];
      originator = [];
      reference = [];
      date = [];
      time = [];
      timeref = 0;
      version = 0;
      rest = [];
      history = [];
    }

-- "at least 602 bytes"
unfoldable pub parts_in : List ℕ → Whole
unfolding pick
parts_in p = pick (leb 602 (length p)) (whole_in p) no_parts

-- where each part stands in a payload
pub record Stand (p : List ℕ) : Type 0 where
  pub description : field (length (parts_in p).description) 0 p ≡ (parts_in p).description
  pub originator : field (length (parts_in p).originator) 256 p ≡ (parts_in p).originator
  pub reference : field (length (parts_in p).reference) 288 p ≡ (parts_in p).reference
  pub date : field (length (parts_in p).date) 320 p ≡ (parts_in p).date
  pub time : field (length (parts_in p).time) 330 p ≡ (parts_in p).time
  pub rest : field (length (parts_in p).rest) 348 p ≡ (parts_in p).rest
  pub history : field (length (parts_in p).history) 602 p ≡ (parts_in p).history
