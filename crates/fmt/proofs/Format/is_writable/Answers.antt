-- `fmt::Format::is_writable` meets its contract: fields that fit keep the product small.
use mathlib.Core.Path.{◌≡◌, sym, ◌∙◌}
use mathlib.Core.Bool.{true}
use native.Mathlib.Nat.{mul-le-mul, le_of_lt}
use native.Mathlib.Omega.{arith}
use Rattle.std.proofs.lemmas.Grind.{common_steps}
use Rattle.fmt.specs.Writing.{fields_fit}
use Rattle.fmt.proofs.Laws.{fits}
use Rattle.fmt.proofs.Format.is_writable.Goals as goal

pub record_good-requires : goal.record_good-requires
record_good-requires c = (fits _ (sym c.fields_fit.ensures ∙ c.if-fields_fit.true)).channels

pub overflow_mul-result : goal.overflow_mul-result
overflow_mul-result c =
    let e : fields_fit c.args.self ≡ true = grind (arith, common_steps) in
    let fit = fits _ e in
    omega (arith, mul-le-mul (le_of_lt fit.rate) (le_of_lt fit.block))
