-- `writer::put_file` meets its contract: five stores, each where the one before it ends, are one store of the file.
use mathlib.Core.Path.{sym, ap, ◌∙◌}
use Prim.Native.Nat.{ℕ, ◌-◌, ◌/◌}
use native.Mathlib.Omega.{arith}
use lib.ListN.{length}
use Rattle.chunk.specs.Names.{DATA}
use Rattle.chna.proofs.Pads.{zeroed-length}
use Rattle.file_parts.specs.Parts.{chunk_with, chunk_size, optional_size, opening_bytes}
use Rattle.file_parts.proofs.Lengths.{optional-length, opening-length}
use Rattle.file_parts.proofs.Stores.{puts-as, puts_then}
use Rattle.file.specs.Files.{body_bytes, file_bytes}
use Rattle.file.specs.Code.{file_size}
use Rattle.file.proofs.Sizes.{fmt-length, form-size}
use Rattle.writer.proofs.put_file.Goals as goal

pub overflow_sub-size : goal.overflow_sub-size
unfolding file_size
overflow_sub-size c =
    omega arith

pub put_opening-requires : goal.put_opening-requires
unfolding chunk_size file_size
put_opening-requires c =
    omega arith

pub put_fmt-requires : goal.put_fmt-requires
unfolding chunk_size file_size
put_fmt-requires c =
    (c.requires.ready.fmt, omega (arith, opening-length))

pub put_bext-requires : goal.put_bext-requires
unfolding chunk_size file_size
put_bext-requires c =
    omega (arith, opening-length, fmt-length c.args.input.format c.requires.ready.fmt)

pub put_chna-requires : goal.put_chna-requires
unfolding chunk_size file_size
put_chna-requires c =
    omega (arith, opening-length, fmt-length c.args.input.format c.requires.ready.fmt, optional-length)

pub put_chunk-requires : goal.put_chunk-requires
unfolding file_size
put_chunk-requires c =
    omega (arith, opening-length, fmt-length c.args.input.format c.requires.ready.fmt, optional-length, ap optional_size (zeroed-length c.args.input.chna.now))

pub returns : goal.returns
unfolding body_bytes file_bytes
returns c =
    let i = c.args.input in
    let a = i.audio.now in
    let size = form-size i.format c.requires.ready.fmt c.args.form i.bext.now i.chna.now a ∙ ap (λ (n : ℕ). n - 8) (sym c.requires.ready.sized) in
    puts_then
    (puts-as _ _ (ap (λ (n : ℕ). opening_bytes c.args.form n (length a) (length a / i.format.block)) size) c.put_opening.ensures)
    (puts_then c.put_fmt.ensures
    (puts_then c.put_bext.ensures
    (puts_then c.put_chna.ensures
    (puts-as _ _ (ap (λ (n : ℕ). chunk_with DATA n a) (sym c.own_field-own.ensures)) c.put_chunk.ensures))))
