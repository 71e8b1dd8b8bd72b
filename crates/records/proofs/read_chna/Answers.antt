-- `records::read_chna` meets its contract: the words are those of the answer.
use mathlib.Core.Path.{refl}
use Rattle.chna.specs.Records.{chna_values}
use Rattle.records.proofs.Values.{told}
use Rattle.records.proofs.read_chna.Goals as goal

pub returns : goal.returns
unfolding chna_values
returns c = told 3 _ _ chna_values _ _ _ _ _ (rw c.from.ensures at c.read.ensures) c.map.ensures.cases (λ a l is. is) (λ r. refl) c.answer_or_zeros.ensures
