-- Document 01, "bext" (001 4.3): the payload of a record, or 16.
use Rattle.std.specs.Prelude.{ℕ, ◌^◌, Bool, ◌&&◌, List, ◌++◌, ltb}
use Rattle.le.specs.Number.{bytes}
use Rattle.chunk.specs.declared.Refusal.TheVariants.{BadRecord}
use Rattle.chunk.specs.Refusals.{Answer, Ok, check}
use Rattle.bext_parts.specs.Parts.{text_good, text_given, date_given, time_given, rest_given, rest_of, padded}
use Rattle.bext.specs.declared.parts.Parts.{Parts}
use Rattle.bext.specs.Records.{Whole}

-- ---- a record that could have been read

unfoldable pub writable : Whole → Bool
writable w =
    ltb w.timeref (256 ^ 8)
    && text_given 256 w.description
    && text_given 32 w.originator
    && text_given 32 w.reference
    && date_given w.date
    && time_given w.time
    && ltb w.version (256 ^ 2)
    && rest_given w.version w.rest
    && text_good w.history

-- ---- its payload

-- "Description 256, Originator 32, Reference 32, date 10, time 8, TimeReference low 4 and high 4, Version 2, then 254
-- bytes, then the coding history to the end"
unfoldable pub laid : Whole → List ℕ
laid w =
    padded 256 w.description
    ++ padded 32 w.originator
    ++ padded 32 w.reference
    ++ padded 10 w.date
    ++ padded 8 w.time
    ++ bytes 8 w.timeref
    ++ bytes 2 w.version
    ++ w.rest
    ++ w.history

-- the payload of a record, or 16
unfoldable pub bext_out : Whole → Answer (List ℕ)
unfolding check
bext_out w = check (writable w) BadRecord (Ok (laid w))

-- ---- the writer

-- the record that a writer is given, part by part
unfoldable pub asked : List ℕ → List ℕ → List ℕ → List ℕ → List ℕ → ℕ → ℕ → List ℕ → List ℕ → Whole
asked description originator reference date time timeref version rest history =
    record {
      description = description;
      originator = originator;
      reference = reference;
      date = date;
      time = time;
      timeref = timeref;
      version = version;
      rest = rest_of rest;
      history = history;
    }

-- the same of the parts together
abbrev pub asked_of : Parts → Whole
asked_of p = asked p.description.now p.originator.now p.reference.now p.date.now p.time.now p.timeref p.version p.rest.now p.history.now
