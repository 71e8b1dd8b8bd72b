-- `records::bext_parts` meets its contract: the payload is too short, or each part is known.
use mathlib.Core.Path.{refl, ap}
use lib.Seq.{sets}
use Rattle.words.proofs.Answered.{same}
use Rattle.records.proofs.Values.{no-parts, parts}
use Rattle.records.proofs.bext_parts.Goals as goal

pub returns-then-payload-lt-HISTORY : goal.returns-then-payload-lt-HISTORY
returns-then-payload-lt-HISTORY c =
    same 14 _ _ _ _ _ _ _ refl (ap (sets c.args.words.now 0) (no-parts _ c.if-payload-lt-HISTORY.true)) c.zeros.ensures

pub returns : goal.returns
returns c =
    same 14 _ _ _ _ _ _ _ refl
    (ap (sets c.args.words.now 0) (parts c.args.payload.now c.of-parts.result c.if-payload-lt-HISTORY.false c.of-parts.ensures))
    c.answer.ensures
