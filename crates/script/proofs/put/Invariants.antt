-- What is left to put, put into the bytes from here on, is the whole put into all of them.
use Rattle.std.proofs.Common.{◌≡◌, ◌-◌}
use Rattle.le.specs.Number.{stored}
use Rattle.script.proofs.put.Given as goal

abbrev pub invariant-loop-byte : goal.invariant-loop-byte
invariant-loop-byte l = stored (l.width - l.byte-index) l.byte-index l.rest l.place ≡ stored l.width 0 l.value l.initial.place
