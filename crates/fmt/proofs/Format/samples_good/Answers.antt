-- `fmt::Format::samples_good` meets its contract: bits of at most 32 keep the product small.
use mathlib.Core.Path.{◌≡◌}
use mathlib.Core.Bool.{true}
use native.Mathlib.Nat.{mul-le-mul_left}
use native.Mathlib.Omega.{arith}
use Rattle.std.proofs.lemmas.Grind.{common_steps}
use Rattle.fmt.specs.Formats.{bits_good}
use Rattle.fmt.proofs.Laws.{bits_range}
use Rattle.fmt.proofs.Format.samples_good.Goals as goal

pub overflow_mul-result : goal.overflow_mul-result
overflow_mul-result c =
    let e : bits_good c.args.self.bits ≡ true = grind (arith, common_steps) in
    omega (arith, mul-le-mul_left c.args.self.channels (bits_range _ e).1)
