-- `file_parts::Output::put_pad` meets its contract: by whether the size is odd.
use mathlib.Core.Path.{refl}
use Rattle.file_parts.proofs.Stores.{puts-nothing, puts-set, puts-as, pad-even, pad-odd}
use Rattle.file_parts.proofs.Output.put_pad.Goals as goal

pub returns-then-size-eq1 : goal.returns-then-size-eq1
returns-then-size-eq1 c =
    puts-as _ _ (pad-odd c.args.size c.if-size-eq1.true) (puts-set _ _ _ refl refl refl)

pub returns-else-size-eq1 : goal.returns-else-size-eq1
returns-else-size-eq1 c =
    puts-nothing _ _ (pad-even c.args.size c.if-size-eq1.false)
