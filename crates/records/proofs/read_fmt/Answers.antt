-- `records::read_fmt` meets its contract: the words are those of the answer.
use mathlib.Core.Path.{refl}
use Rattle.fmt.specs.Formats.{fmt_values}
use Rattle.records.proofs.Values.{told}
use Rattle.records.proofs.read_fmt.Goals as goal

pub returns : goal.returns
unfolding fmt_values
returns c = told 9 _ _ fmt_values _ _ _ _ _ c.read.ensures c.map.ensures.cases (λ a l is. is) (λ r. refl) c.answer_or_zeros.ensures
