-- `bext::Parts::store` meets its contract: each part is put behind the parts before it, so that what has been put is a payload's
-- front.
use Rattle.std.proofs.Common.{◌≡◌, ◌∙◌, ◌+◌, ◌-◌, ◌≤◌, ◌++◌, [], ap, sym, refl, arith, length}
use lib.Seq.{length-take-le}
use Rattle.std.proofs.lemmas.List.Edits.{sets}
use Rattle.le.specs.Number.{bytes, field, stored}
use Rattle.le.proofs.Laws.{field-length}
use Rattle.bext.specs.Records.{Whole}
use Rattle.bext.specs.Writing.{laid, asked, asked_of}
use Rattle.bext.specs.Code.{Fitting}
use Rattle.chunk.proofs.Outputs.{puts-next}
use Rattle.bext.proofs.Stores.{padded-rest, rest-short, put-part, put-text-part, front1, front2, front3, front4, front5, front6, front7, front8, length1, length2, length3, length4, length5, length6, length7, length8}
use Rattle.bext.proofs.parts.Parts.store.Goals as goal

pub slice_bounds-put_text-end-2 : goal.slice_bounds-put_text-end-2
slice_bounds-put_text-end-2 c = sym (length-take-le 256 c.args.out.now (omega arith))

pub put_text-requires : goal.put_text-requires
unfolding asked
put_text-requires c = omega (arith, length-take-le 256 c.args.out.now (omega arith), c.requires.0.description_fits)

pub put_text-requires-6 : goal.put_text-requires-6
unfolding asked field
put_text-requires-6 c =
    omega (arith, rest-short c.args.self.rest.now c.requires.0.rest_fits, field-length 254 348 c.store-2.new.s (omega arith))

pub returns : goal.returns
unfolding asked laid stored
returns c =
    let a = c.args in
    let s = a.out.now in
    let w : Whole = asked_of a.self in
    let fits : Fitting w = c.requires.0 in
    let room : 602 + length w.history ≤ length s = c.requires.1 in
    let put1 = put-text-part s s [] _ w.description 0 256 refl refl c.put_text.ensures fits.description_fits (omega arith) in
    let put2 = put-text-part s _ (front1 w) _ w.originator 256 32 put1 (length1 w fits) c.put_text-2.ensures fits.originator_fits (omega arith) in
    let put3 = put-text-part s _ (front2 w) _ w.reference 288 32 put2 (length2 w fits) c.put_text-3.ensures fits.reference_fits (omega arith) in
    let put4 = put-text-part s _ (front3 w) _ w.date 320 10 put3 (length3 w fits) c.put_text-4.ensures fits.date_fits (omega arith) in
    let put5 = put-text-part s _ (front4 w) _ w.time 330 8 put4 (length4 w fits) c.put_text-5.ensures fits.time_fits (omega arith) in
    let put6 : c.store.new.s ≡ sets s 0 (front6 w) =
    c.store.ensures
    ∙ ap (λ o. sets o 338 (bytes 8 w.timeref)) put5
    ∙ puts-next s (front5 w) (bytes 8 w.timeref) 0 338 (omega (arith, length5 w fits)) in
    let put7 : c.store-2.new.s ≡ sets s 0 (front7 w) =
    c.store-2.ensures
    ∙ ap (λ o. sets o 346 (bytes 2 w.version)) put6
    ∙ puts-next s (front6 w) (bytes 2 w.version) 0 346 (omega (arith, length6 w fits)) in
    let put8 =
    put-text-part s _ (front7 w) _ a.self.rest.now 348 254 put7 (length7 w fits) c.put_text-6.ensures (rest-short a.self.rest.now fits.rest_fits) (omega arith)
    ∙ ap (λ l. sets s 0 (front7 w ++ l)) (padded-rest a.self.rest.now fits.rest_fits) in
    put-part s _ (front8 w) _ w.history 602 (602 + length w.history - 602) put8 (length8 w fits) c.copy_from_slice.ensures.after (omega arith) (omega arith)
