-- `symphedra::writers::write_file` meets its contract: it answers what the writer does.
use Rattle.std.proofs.Common.{rules}
use Rattle.fmt.specs.declared.Format.{Format}
use Rattle.file.specs.Files.{file_out}
use Rattle.records.proofs.Payloads.{nine-filled}
use Rattle.symphedra.specs.Exports.{file_of}
use Rattle.symphedra.proofs.Payloads.{file-filled}
use Rattle.symphedra.proofs.writers.write_file.Goals as goal

pub returns : goal.returns
unfolding file_of
returns c =
    let a = c.args in
    c.lend.ensures _
    (record {
      filled =
          nine-filled a.words.now (λ (f : Format). file_out a.form f a.bext.now a.chna.now a.audio.now)
          (λ f. file-filled a.form f a.bext.now a.chna.now a.audio.now);
      writes = λ s r t met. search rules;
    })
