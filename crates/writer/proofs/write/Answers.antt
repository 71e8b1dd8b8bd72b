-- `writer::write` meets its contract: what the judge refuses is refused, and a file that there is room for is stored.
use mathlib.Core.Path.{◌≡◌, sym, ap, ◌∙◌}
use mathlib.Core.List.{◌++◌}
use Prim.Native.Nat.{ℕ, ◌≤◌}
use native.Mathlib.Omega.{arith}
use lib.ListN.{length, drop}
use Rattle.std.proofs.Common.{rules}
use Rattle.chunk.specs.Refusals.{Err}
use Rattle.chunk.proofs.Outputs.{puts-front, refuses, lacks-room, writes}
use Rattle.file.specs.Files.{file_bytes}
use Rattle.file.proofs.Inputs.{block-least-of}
use Rattle.file.proofs.Sizes.{file-length}
use Rattle.file.proofs.Outs.{judged-refused, judged-size}
use Rattle.writer.proofs.write.Goals as goal

pub returns-in_err-size : goal.returns-in_err-size
returns-in_err-size c =
    let h : c.from_residual.result ≡ Err c.in_err-size.field-0.0 = search rules in
    rw h (refuses _ _ _ (judged-refused _ _ (sym c.judge.ensures ∙ c.in_err-size.was)))

pub returns-then-out-size : goal.returns-then-out-size
returns-then-out-size c =
    let w = judged-size _ _ _ _ _ _ (sym c.judge.ensures ∙ c.in_ok-size.was) in
    lacks-room _ _ _ w.is_given (omega arith)

pub store-requires : goal.store-requires
store-requires c =
    let w = judged-size _ _ _ _ _ _ (sym c.judge.ensures ∙ c.in_ok-size.was) in
    record {
      ready =
          record {
            fmt = w.input.sixteen;
            block = block-least-of _ w.input.fmt;
            sized = w.long ∙ file-length _ w.input.sixteen _ _ _ _;
          };
      room = omega arith;
    }

pub returns : goal.returns
returns c =
    let w = judged-size _ _ _ _ _ _ (sym c.judge.ensures ∙ c.in_ok-size.was) in
    let i = c.args.input in
    let s = c.args.out.now in
    let bs = file_bytes c.args.form i.format i.bext.now i.chna.now i.audio.now in
    let fits : length bs ≤ length s = omega arith in
    writes _ _ bs w.is_given _ _ w.long (omega arith) (c.store.ensures ∙ puts-front s bs fits ∙ ap (λ (n : ℕ). bs ++ drop n s) (sym w.long))
