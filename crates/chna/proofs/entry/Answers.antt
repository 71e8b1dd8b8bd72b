-- `chna::entry` meets its contract: each exit is one outcome of the definition.
use Rattle.std.proofs.Common.{arith, sym, ap, ◌∙◌, ◌+◌, ◌*◌, List, ℕ}
use Rattle.chna_entry.specs.Entries.{whole_entry, value_of}
use Rattle.chna.specs.Records.{entry_at}
use Rattle.chna.proofs.Counts.{lent}
use Rattle.chna.proofs.Entries.{entry_past}
use Rattle.chna.proofs.entry.Goals as goal
use Rattle.chna.proofs.entry.Goals.{then-payload-lt4-via-then-payload-lt4, then-payload-lt4-via-else-payload-lt4+then-payload-i}

pub returns-then-payload-lt4 : goal.returns-then-payload-lt4
unfolding value_of
returns-then-payload-lt4 c = elim c.then-payload-lt4.branch [
  | then-payload-lt4-via-then-payload-lt4 w ↦ sym (ap value_of (entry_past c.args.i c.args.payload.now (omega arith)))
  | then-payload-lt4-via-else-payload-lt4+then-payload-i w ↦ sym (ap value_of (entry_past c.args.i c.args.payload.now (omega arith)))
]

pub returns : goal.returns
unfolding entry_at
returns c =
    let a = c.args in
    c.read.ensures ∙ sym (ap (λ (e : List ℕ). value_of (whole_entry e)) (lent (4 + a.i * 40) a.payload.now))
