-- `writer::put_fmt` meets its contract: the header, and 16 bytes behind it, which need no pad.
use mathlib.Core.Path.{◌≡◌, ap}
use Prim.Native.Nat.{ℕ}
use native.Mathlib.Omega.{arith}
use lib.ListN.{length}
use Rattle.std.proofs.Common.{rules}
use Rattle.chunk.specs.Names.{FMT}
use Rattle.fmt.specs.Writing.{format_bytes}
use Rattle.file_parts.specs.Parts.{chunk_with, chunk_bytes, pad_of}
use Rattle.file_parts.proofs.Stores.{puts-nothing, puts-as, header-length, pad-even, chunk-puts}
use Rattle.file.proofs.Sizes.{format-length}
use Rattle.writer.proofs.put_fmt.Goals as goal

pub put_part-requires-clause-room : goal.put_part-requires-clause-room
put_part-requires-clause-room c =
    omega (arith, header-length)

pub returns : goal.returns
unfolding chunk_bytes
returns c =
    let p = format_bytes c.args.format in
    let long : length p ≡ 16 = format-length c.args.format c.requires.0 in
    puts-as (chunk_bytes FMT p) (chunk_with FMT 16 p) (ap (λ (n : ℕ). chunk_with FMT n p) long)
    (chunk-puts FMT 16 {p = p} c.put_header.ensures
    (c.put_part.ensures p long (record { stores = λ s t met. search rules }))
    (puts-nothing (pad_of (length p)) _ (pad-even (length p) (omega arith))))
