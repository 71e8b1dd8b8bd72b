-- `records::write_nine` meets its contract: another number of words, or what fmt's writer answers.
use mathlib.Core.Path.{◌≡◌, ◌∙◌, sym}
use Rattle.std.proofs.Common.{rules}
use Rattle.chunk.specs.declared.Refusal.TheVariants.{BadRecord}
use Rattle.chunk.specs.Refusals.{Err}
use Rattle.chunk.proofs.Outputs.{refuses}
use Rattle.fmt.specs.Writing.{format_out}
use Rattle.records.proofs.Payloads.{other, nine}
use Rattle.records.proofs.write_nine.Goals as goal

pub returns-in_err-ok_or : goal.returns-in_err-ok_or
returns-in_err-ok_or c =
    let r : c.from_residual.result ≡ Err BadRecord = search rules in
    rw r (refuses _ _ BadRecord (other _ format_out (sym c.format.ensures ∙ c.in_err-ok_or.ensures.ok_part)))

pub returns : goal.returns
returns c =
    rw (nine c.args.words.now format_out _ (sym c.format.ensures ∙ c.in_ok-ok_or.ensures.ok_part)) c.write.ensures
