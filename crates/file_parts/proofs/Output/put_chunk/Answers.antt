-- `file_parts::Output::put_chunk` meets its contract: header, payload and pad are a chunk.
use Rattle.file_parts.proofs.Stores.{chunk-puts}
use Rattle.file_parts.proofs.Output.put_chunk.Goals as goal

pub returns : goal.returns
returns c =
    chunk-puts _ _ c.put_header.ensures c.put_payload.ensures c.put_pad.ensures
