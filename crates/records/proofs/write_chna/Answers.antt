-- `records::write_chna` meets its contract: it answers what the writer does.
use Rattle.std.proofs.Common.{rules}
use Rattle.records.proofs.Payloads.{chna-filled}
use Rattle.records.proofs.write_chna.Goals as goal

pub returns : goal.returns
returns c = c.lend.ensures _ (record { filled = chna-filled _ _ _ _; writes = λ s r t met. search rules })
