-- `fmt::Format::payload_length` meets its contract: the arms are the sizes whose payload is not of 16 bytes.
use mathlib.Core.Path.{sym}
use native.Mathlib.Omega.{arith}
use Rattle.fmt.proofs.Payloads.{long-16, long_18, long_40}
use Rattle.fmt.proofs.Format.payload_length.Goals as goal

pub returns-in-18 : goal.returns-in-18
returns-in-18 c = sym (long_18 _ c.in-18.is)

pub returns-in-40 : goal.returns-in-40
returns-in-40 c = sym (long_40 _ c.in-40.is)

pub returns-in_default : goal.returns-in_default
returns-in_default c = sym (long-16 c.args.self (omega arith) (omega arith))
