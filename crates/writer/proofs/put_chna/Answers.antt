-- `writer::put_chna` meets its contract: nothing, or header, payload and pad.
use mathlib.Core.Path.{◌≡◌, sym, ap, ◌∙◌}
use Prim.Native.Nat.{ℕ}
use native.Mathlib.Omega.{arith}
use lib.ListN.{length}
use borrow.Author.Tests.{eqb-true, eqb-false}
use Rattle.std.proofs.Common.{rules}
use Rattle.chunk.specs.Names.{CHNA}
use Rattle.chna.specs.Records.{pads_zeroed}
use Rattle.chna.proofs.Pads.{zeroed-length}
use Rattle.file_parts.specs.Parts.{pad_of, chunk_with, chunk_bytes, chunk_size}
use Rattle.file_parts.proofs.Lengths.{optional-none, optional-some, size-some}
use Rattle.file_parts.proofs.Stores.{puts-nothing, puts-as, header-length, chunk-puts}
use Rattle.writer.proofs.put_chna.Goals as goal

pub put_header-requires : goal.put_header-requires
unfolding chunk_size
put_header-requires c =
    let some = eqb-false (length c.args.chna.now) 0 (sym c.is_empty.ensures ∙ c.if-not-is_empty.true) in
    omega (arith, size-some _ some)

pub put_part-requires-clause-room : goal.put_part-requires-clause-room
unfolding chunk_size
put_part-requires-clause-room c =
    let some = eqb-false (length c.args.chna.now) 0 (sym c.is_empty.ensures ∙ c.if-not-is_empty.true) in
    omega (arith, size-some _ some, header-length)

pub put_pad-requires : goal.put_pad-requires
unfolding chunk_size
put_pad-requires c =
    let p = c.args.chna.now in
    let some = eqb-false (length p) 0 (sym c.is_empty.ensures ∙ c.if-not-is_empty.true) in
    let part = c.put_part.ensures (pads_zeroed p) (zeroed-length p) (record { stores = λ s t met. search rules }) in
    omega (arith, size-some _ some, header-length, zeroed-length)

pub returns-then-not-is_empty : goal.returns-then-not-is_empty
unfolding chunk_bytes
returns-then-not-is_empty c =
    let p = c.args.chna.now in
    let some = eqb-false (length p) 0 (sym c.is_empty.ensures ∙ c.if-not-is_empty.true) in
    let long : length (pads_zeroed p) ≡ length p = zeroed-length p in
    puts-as _ (chunk_with CHNA (length p) (pads_zeroed p))
    (optional-some CHNA (pads_zeroed p) (λ e. some (sym long ∙ e)) ∙ ap (λ (n : ℕ). chunk_with CHNA n (pads_zeroed p)) long)
    (chunk-puts CHNA (length p) {p = pads_zeroed p} c.put_header.ensures
    (c.put_part.ensures (pads_zeroed p) long (record { stores = λ s t met. search rules }))
    (puts-as _ _ (ap pad_of long) c.put_pad.ensures))

pub returns-else-not-is_empty : goal.returns-else-not-is_empty
returns-else-not-is_empty c =
    let none = eqb-true (length c.args.chna.now) 0 (sym c.is_empty.ensures ∙ c.if-not-is_empty.false) in
    puts-nothing _ _ (optional-none CHNA _ (zeroed-length c.args.chna.now ∙ none))
