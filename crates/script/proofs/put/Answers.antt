-- `script::put` meets its contract: what is left to put, put into the bytes from here on, is the whole put into all of them.
use Rattle.std.proofs.Common.{◌+◌, ◌-◌, ◌∙◌, sym, arith}
use Rattle.script.proofs.Laws.{put_one, put-done, part-length, put-part}
use Rattle.script.proofs.put.Goals as goal

pub loop-byte-preserved : goal.loop-byte-preserved
loop-byte-preserved c =
    let a = c.args in
    let l = c.loop-byte in
    let n = part-length a.at a.width (a.at + a.width - a.at) a.file.now (omega arith) (omega arith) in
    put_one a.width l.byte-index l.rest l.place (omega (arith, n)) ∙ l.invariant

pub returns-clause-file_after : goal.returns-clause-file_after
returns-clause-file_after c =
    let a = c.args in
    let l = c.loop-byte in
    let n = part-length a.at a.width (a.at + a.width - a.at) a.file.now (omega arith) (omega arith) in
    put-part a.at a.width _ a.value a.file.now l.place (omega arith) (omega arith)
    (sym (put-done a.width l.byte-index l.byte-index l.rest l.place (omega (arith, n))) ∙ l.invariant)
