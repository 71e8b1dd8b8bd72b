-- `file_parts::Output::put_part` meets its contract: the part that was lent holds what was stored in it.
use mathlib.Core.Path.{◌≡◌, refl, sym, ap}
use Prim.Native.Nat.{ℕ, ◌+◌}
use lib.ListN.{length}
use Rattle.file_parts.proofs.Stores.{puts-set, part-stored}
use Rattle.file_parts.proofs.Output.put_part.Goals as goal

pub returns : goal.returns
returns g c = λ bs long is.
    let o = c.args.self.now in
    let end : o.at + c.args.len ≡ o.at + length bs = ap (λ (n : ℕ). o.at + n) (sym long) in
    puts-set bs o _
    (part-stored o.bytes.now _ bs o.at (o.at + c.args.len) end c.requires.room
    (is.stores _ _ (record { shown = _; shows = refl; left = _; met = c.store.ensures; leaves = refl }))) end refl
