-- `records::read_bext` meets its contract: the words are those of the answer.
use mathlib.Core.Path.{refl}
use Rattle.bext.specs.Records.{bext_values}
use Rattle.records.proofs.Values.{told}
use Rattle.records.proofs.read_bext.Goals as goal

pub returns : goal.returns
unfolding bext_values
returns c = told 8 _ _ bext_values _ _ _ _ _ c.read.ensures c.map.ensures.cases (λ a l is. is) (λ r. refl) c.answer_or_zeros.ensures
