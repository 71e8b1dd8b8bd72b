-- Document 01, "Shape of a file" and "The 32-bit walk": the walk from header to header, over a rule for the sizes. The
-- scan and the 32-bit walk differ in that rule alone.
use Rattle.std.specs.Prelude.{ℕ, zero, suc, ◌+◌, ◌%◌, List, [], ◌∷◌, length, eqb, ltb, leb}
use Rattle.le.specs.Number.{number}
use Rattle.le.specs.Choice.{pick}
use Rattle.chunk.specs.declared.Entry.{Entry}
use Rattle.chunk.specs.declared.Source.TheVariants.{Own}
use Rattle.chunk.specs.declared.TrueSize.{TrueSize}
use Rattle.chunk.specs.declared.Refusal.TheVariants.{CutHeader, TooMany, UnknownSize, PastEnd}
use Rattle.chunk.specs.Refusals.{Answer, Verdict, Err, Ok}
use Rattle.chunk.specs.Fields.{ONES}

-- A size rule: from a header's offset, its name and its own size field to the true size and where that came from, or a
-- refusal.
abbrev pub Rule : Type 0
Rule = ℕ → ℕ → ℕ → Answer TrueSize

-- the entry of a chunk whose payload, of a true size, starts at a place
abbrev pub entry_of : ℕ → ℕ → TrueSize → Entry
entry_of place name size = record { name = name; place = place; size = size.bytes; source = size.source }

-- "Each step of the walk answers a chunk or a stop": a chunk, and where the next header is due; or how the walk ends
pub data Turn : Type 0 where
  Chunk : Entry → ℕ → Turn
  Stop : Verdict → Turn

-- where the next header is due: "one pad byte if the payload is odd"
unfoldable pub past : Entry → ℕ
past e = e.place + e.size + e.size % 2

-- check 8, "payload or its pad passes the end"
unfoldable pub placed : ℕ → Entry → Turn
unfolding pick
placed len e = pick (leb (past e) len) (Chunk e (past e)) (Stop (Err PastEnd))

-- the chunk of a true size, or the rule's refusal
unfoldable pub sized : (len at name : ℕ) → Answer TrueSize → Turn
sized len at name (Err r) = Stop (Err r)
sized len at name (Ok size) = placed len (entry_of (at + 8) name size)

-- What stands at an offset of a file of len bytes whose header there has this name and size field, where room more
-- headers may come: the end; 6, "1 to 7 bytes left where a header is due"; 9, "a 65th header"; the rule's refusal; 8;
-- or the chunk.
unfoldable pub step : (rule : Rule) (len room at name own : ℕ) → Turn
unfolding pick
step rule len room at name own =
    pick (eqb at len) (Stop (Ok tt))
    (pick (ltb len (at + 8)) (Stop (Err CutHeader))
    (pick (eqb room 0) (Stop (Err TooMany))
    (sized len at name (rule at name own))))

unfoldable pub step_at : (rule : Rule) (s : List ℕ) (room at : ℕ) → Turn
step_at rule s room at = step rule (length s) room at (number 4 at s) (number 4 (at + 4) s)

-- what a walk shows, and how it ends
pub record Walked : Type 0 where
  pub rows : List Entry
  pub end : Verdict

unfoldable pub follow : Turn → (ℕ → Walked) → Walked
follow (Stop v) rest = record { rows = []; end = v }
follow (Chunk e next) rest = record { rows = e ∷ (rest next).rows; end = (rest next).end }

-- "it holds an offset, at first 12, and a list, at first empty. Where the offset is L it ends with no refusal." A step
-- with room 0 is never a chunk, so what would follow it there is never reached.
unfoldable pub walk : (rule : Rule) (s : List ℕ) (room at : ℕ) → Walked
walk rule s zero at = follow (step_at rule s zero at) (λ next. record { rows = []; end = Err TooMany })
walk rule s (suc room) at = follow (step_at rule s (suc room) at) (λ next. walk rule s room next)

-- the size that a chunk's own field says
abbrev pub field_size : ℕ → TrueSize
field_size own = record { bytes = own; source = Own }

-- "in the walk every all-ones chunk size is 7"; any other field is the size
unfoldable pub own_size : Rule
unfolding pick
own_size at name own = pick (eqb own ONES) (Err UnknownSize) (Ok (field_size own))
