-- `wave::rows::list32` meets its contract: the walk from byte 12, or none where no whole header stands there.
use native.Mathlib.Omega.{arith}
use Rattle.wave.proofs.Stored.{bare-end, bare-cut}
use Rattle.wave.proofs.rows.list32.Goals as goal

pub returns-then-len-eq12 : goal.returns-then-len-eq12
returns-then-len-eq12 c =
    bare-end _ _ c.requires.1 c.if-len-eq12.true

pub returns : goal.returns
returns c =
    bare-cut _ _ c.requires.1 (omega (arith, c.if-len-eq12.false, c.requires.0)) (omega (arith, c.if-len-ge20.false))
