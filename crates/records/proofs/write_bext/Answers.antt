-- `records::write_bext` meets its contract: it answers what the writer does.
use Rattle.std.proofs.Common.{rules}
use Rattle.records.proofs.Payloads.{bext-filled}
use Rattle.records.proofs.write_bext.Goals as goal

pub returns : goal.returns
returns c = c.lend.ensures _ (record { filled = bext-filled _; writes = λ s r t met. search rules })
