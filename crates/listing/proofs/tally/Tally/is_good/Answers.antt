-- `listing::tally::Tally::is_good` meets its contract: the tests are those of check 10, in turn.
use Rattle.std.proofs.Common.{arith}
use Rattle.std.proofs.lemmas.Bool.Decides.{nat_tests}
use Rattle.listing.proofs.Passing.{good-and}
use Rattle.listing.proofs.tally.Tally.is_good.Goals as goal

pub returns-then-self-le1-2 : goal.returns-then-self-le1-2
returns-then-self-le1-2 c = rw good-and (grind (arith, nat_tests))

pub returns-else-self-le1-2 : goal.returns-else-self-le1-2
returns-else-self-le1-2 c = rw good-and (grind (arith, nat_tests))
