-- `file_parts::Output::put_payload` meets its contract: the part that was copied to is set.
use mathlib.Core.Path.{refl}
use Rattle.file_parts.proofs.Stores.{puts-set, part-put}
use Rattle.file_parts.proofs.Output.put_payload.Goals as goal

pub returns : goal.returns
returns c =
    let o = c.args.self.now in
    puts-set c.args.payload.now o _
    (part-put o.bytes.now _ c.args.payload.now o.at _ refl c.requires c.copy_from_slice.ensures.after) refl refl
