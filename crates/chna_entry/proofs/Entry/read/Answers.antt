-- `chna_entry::Entry::read` meets its contract: each exit is one outcome of the definition.
use Rattle.std.proofs.Common.{sym, refl, ◌∙◌}
use Rattle.std.proofs.lemmas.Bool.{eq-eqb, ne_eqb}
use Rattle.le.specs.Number.{field}
use Rattle.le.specs.Choice.{pick}
use Rattle.chna_entry.specs.Entries.{used_in, entry_in, whole_entry, value_of}
use Rattle.chna_entry.proofs.Entry.read.Goals as goal
use Rattle.chna_entry.proofs.Entry.read.Goals.{then-e-ne-SIZE-via-then-e-ne-SIZE, then-e-ne-SIZE-via-else-e-ne-SIZE+then-is_unused}

pub returns-then-e-ne-SIZE : goal.returns-then-e-ne-SIZE
unfolding pick entry_in whole_entry value_of
returns-then-e-ne-SIZE c = elim c.then-e-ne-SIZE.branch [
  | then-e-ne-SIZE-via-then-e-ne-SIZE w ↦ rw (ne_eqb _ _ w.if-e-ne-SIZE.true) refl
  | then-e-ne-SIZE-via-else-e-ne-SIZE+then-is_unused w ↦ rw (eq-eqb _ _ w.if-e-ne-SIZE.false, sym w.is_unused.ensures ∙ w.if-is_unused.true) refl
]

pub returns : goal.returns
unfolding field pick used_in entry_in whole_entry value_of
returns c =
    let uid = rw c.unwrap.ensures at c.try_into.ensures.1 in
    let track = rw c.unwrap-2.ensures at c.try_into-2.ensures.1 in
    let pack = rw c.unwrap-3.ensures at c.try_into-3.ensures.1 in
    rw (eq-eqb _ _ c.if-e-ne-SIZE.false, sym c.is_unused.ensures ∙ c.if-is_unused.false, c.read.ensures.is, uid.same, track.same, pack.same) refl
