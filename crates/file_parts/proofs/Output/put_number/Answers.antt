-- `file_parts::Output::put_number` meets its contract: one store.
use mathlib.Core.Path.{refl}
use native.Mathlib.Omega.{arith}
use Rattle.le.specs.Number.{stored}
use Rattle.le.proofs.Laws.{bytes-length}
use Rattle.file_parts.proofs.Output.put_number.Goals as goal

pub returns : goal.returns
unfolding stored
returns g c =
    record { leaves = c.store.ensures; next = omega (arith, bytes-length); same_length = c.store.auto.s; same_reference = refl }
