-- `records::write_fmt` meets its contract: it answers what the writer does.
use Rattle.std.proofs.Common.{rules}
use Rattle.fmt.specs.Writing.{format_out}
use Rattle.records.proofs.Payloads.{nine-filled, fmt-filled}
use Rattle.records.proofs.write_fmt.Goals as goal

pub returns : goal.returns
returns c = c.lend.ensures _ (record { filled = nine-filled c.args.record.now format_out fmt-filled; writes = λ s r t met. search rules })
