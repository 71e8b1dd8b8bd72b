-- `bext::parts::text` meets its contract: a text is the start of its bytes.
use mathlib.Core.Path.{◌∙◌, ap, sym}
use native.Mathlib.Omega.{arith}
use lib.ListN.{take}
use lib.Seq.{length-take-le}
use Rattle.bext_parts.proofs.Texts.{text-short}
use Rattle.bext.proofs.Held.{text-start}
use Rattle.bext.proofs.parts.text.Goals as goal

pub slice_bounds-result-end : goal.slice_bounds-result-end
slice_bounds-result-end c = sym (length-take-le _ c.args.s.now (omega (arith, c.text_length.ensures, text-short c.args.s.now)))

pub returns : goal.returns
returns c = ap (λ n. take n c.args.s.now) c.text_length.ensures ∙ text-start c.args.s.now
