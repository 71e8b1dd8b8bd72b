-- `file_parts::Output::put_header` meets its contract: two stores, one after the other.
use Rattle.file_parts.proofs.Stores.{puts_then}
use Rattle.file_parts.proofs.Output.put_header.Goals as goal

pub returns : goal.returns
returns c =
    puts_then c.put_number.ensures c.put_number-2.ensures
