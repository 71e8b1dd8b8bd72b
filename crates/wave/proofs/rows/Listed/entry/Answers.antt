-- `wave::rows::Listed::entry` meets its contract: the chunk is made of its header and the size that the header tells.
use mathlib.Core.Path.{◌≡◌, sym, ◌∙◌}
use Rattle.std.proofs.Common.{rules, false}
use Rattle.chunk.proofs.Checks.{given-inj}
use Rattle.chunk.proofs.Laid.{row-size}
use Rattle.form.specs.Forms.{is_wide}
use Rattle.wave.proofs.Again.{entry-own, entry-known, entry-riff, entry-made}
use Rattle.wave.proofs.rows.Listed.entry.Goals.{then-this-ne0+then-header-eq-ONES, else-this-ne0, else-this-ne0-via-then-this-ne0+else-header-eq-ONES, else-this-ne0-via-else-this-ne0}
use Rattle.wave.proofs.rows.Listed.entry.Goals as goal

pub known-size-requires : goal.known-size-requires
known-size-requires g c =
    let e = c.requires.stands in
    record {
      fit = c.args.self.now.ended.fit;
      size = row-size e.0;
      is = entry-known _ _ _ e.0 e.1 _ c.header-header.ensures c.if-header-eq-ONES.true;
    }

pub returns : goal.returns
returns g c =
    let e = c.requires.stands in
    let h = c.header-header.ensures in
    let sized : c.if-this-ne0.size ≡ row-size e.0 = elim c.if-this-ne0.branch [
      | then-this-ne0+then-header-eq-ONES w ↦
          w.size-is ∙ given-inj _ _ (sym w.known-size.ensures.is ∙ entry-known _ _ _ e.0 e.1 _ h w.if-header-eq-ONES.true)
      | else-this-ne0 w ↦
          w.size-is ∙ w.own-size.ensures ∙ entry-own _ _ _ e.0 e.1 _ h (elim w.else-this-ne0.branch [
            | else-this-ne0-via-then-this-ne0+else-header-eq-ONES v ↦ v.if-header-eq-ONES.false
            | else-this-ne0-via-else-this-ne0 v ↦
                let n : is_wide c.args.self.now.head.form ≡ false = search rules in
                entry-riff _ _ _ e.0 e.1 _ h n
          ])
    ] in
    entry-made _ _ _ e.0 e.1 _ h _ _ sized c.entry.ensures
