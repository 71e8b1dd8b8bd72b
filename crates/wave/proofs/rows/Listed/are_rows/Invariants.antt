use Rattle.wave.proofs.Compared.{Comparing}
use Rattle.wave.proofs.rows.Listed.are_rows.Given as goal

abbrev pub invariant-loop-i : goal.invariant-loop-i
invariant-loop-i g l = Comparing l.self.head l.self.file.now l.table l.i-end l.place l.i
