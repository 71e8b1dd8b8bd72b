-- `upgrade::Changes::make` meets its contract: the stores one after the other.
use Rattle.std.proofs.Common.{◌≡◌, ◌∙◌, ap}
use Rattle.le.specs.Number.{stored}
use Rattle.chunk.specs.Fields.{ONES}
use Rattle.chunk.specs.Names.{DS64}
use Rattle.upgrade.specs.Code.{fact_store}
use Rattle.upgrade.specs.Upgrades.{patch, patched}
use Rattle.upgrade.proofs.Makes.{stores-made}
use Rattle.upgrade.proofs.Changes.make.Goals as goal
use Rattle.upgrade.proofs.Changes.make.Goals.{in-Some, in_default}

pub returns : goal.returns
unfolding fact_store patch patched
returns c =
    let m = c.args.self in
    let fact : c.match-self.file ≡ patched (fact_store m.fact) c.store-5.new.s =
    elim c.match-self.branch [
      | in-Some w ↦ rw w.in-Some.is (w.file-is ∙ w.store-in-Some.ensures)
      | in_default w ↦ rw w.in_default.is w.file-is
    ] in
    stores-made m c.args.file.now c.store-5.new.s c.match-self.file _
    (c.store-5.ensures
    ∙ ap (stored 4 12 DS64)
    (c.store-4.ensures
    ∙ ap (stored 4 44 m.ds64.count)
    (c.store-3.ensures
    ∙ ap (stored 8 36 m.ds64.third) (c.store-2.ensures ∙ ap (stored 8 28 m.ds64.data_size) c.store.ensures))))
    fact
    (c.store-8.ensures
    ∙ ap (stored 4 0 m.name) (c.store-7.ensures ∙ ap (stored 4 4 ONES) c.store-6.ensures))
