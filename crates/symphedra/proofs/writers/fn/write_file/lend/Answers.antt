-- The writer that `symphedra::writers::write_file` lends to meets its contract: another number of words, or what the writer of
-- files answers.
use mathlib.Core.Path.{◌≡◌, ◌∙◌, sym}
use Rattle.std.proofs.Common.{rules}
use Rattle.chunk.specs.declared.Refusal.TheVariants.{BadRecord}
use Rattle.chunk.specs.Refusals.{Err}
use Rattle.chunk.proofs.Outputs.{refuses}
use Rattle.fmt.specs.declared.Format.{Format}
use Rattle.file.specs.Files.{file_out}
use Rattle.records.proofs.Payloads.{other, nine}
use Rattle.symphedra.specs.Exports.{file_of}
use Rattle.symphedra.proofs.writers.fn.write_file.lend.Goals as goal

pub returns-in_err-format : goal.returns-in_err-format
unfolding file_of
returns-in_err-format c =
    let s = c.captures in
    let r : c.from_residual.result ≡ Err BadRecord = search rules in
    rw r
    (refuses _ _ BadRecord
    (other s.words.now (λ (f : Format). file_out s.form f s.bext.now s.chna.now s.audio.now) (sym c.format.ensures ∙ c.in_err-format.ensures.ok_part)))

pub returns : goal.returns
unfolding file_of
returns c =
    let s = c.captures in
    rw (nine s.words.now (λ (f : Format). file_out s.form f s.bext.now s.chna.now s.audio.now) _ (sym c.format.ensures ∙ c.in_ok-format.ensures.ok_part)) c.write.ensures
