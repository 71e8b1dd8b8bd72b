-- `file::Input::is_good` meets its contract: a record that can be written has a block.
use mathlib.Core.Path.{◌≡◌}
use mathlib.Core.Bool.{true}
use native.Mathlib.Omega.{arith}
use Rattle.std.proofs.lemmas.Grind.{common_steps}
use Rattle.fmt.specs.Writing.{writable}
use Rattle.file.proofs.Inputs.{block-least-of}
use Rattle.file.proofs.Input.is_good.Goals as goal

pub nonzero_rem-result : goal.nonzero_rem-result
nonzero_rem-result c =
    let e : writable c.args.self.format ≡ true = grind (arith, common_steps) in
    omega (arith, block-least-of c.args.self.format e)
