-- `listing::list` meets its contract: the head, the walk past ds64 and check 10 in turn, a law for each way that they
-- end.
use Rattle.std.proofs.Common.{◌≡◌, sym, ◌∙◌, ap, rules}
use Rattle.chunk.specs.Refusals.{Err}
use Rattle.form.proofs.Opens.{opened-refused, opened-start}
use Rattle.listing.specs.Code.{listed_as}
use Rattle.listing.proofs.Listings.{starts-due, listing-head, list-refused, list-noted, list-bare}
use Rattle.listing.proofs.list.Goals as goal

pub returns-in_err-start : goal.returns-in_err-start
unfolding listed_as
returns-in_err-start c =
    let h : c.from_residual.result ≡ Err c.in_err-start.field-0.0 = search rules in
    h ∙ sym (ap (listed_as _) (listing-head _ _ (opened-refused _ _ _ (sym c.«open».ensures ∙ c.in_err-start.was))))

pub overflow_sub-start : goal.overflow_sub-start
overflow_sub-start c = (starts-due _ _ (opened-start _ _ _ (sym c.«open».ensures ∙ c.in_ok-start.was))).start

pub returns-then-len-start : goal.returns-then-len-start
unfolding listed_as
returns-then-len-start c =
    let b = opened-start _ _ _ (sym c.«open».ensures ∙ c.in_ok-start.was) in
    ap Err c.bare.ensures ∙ sym (ap (listed_as _) (list-bare _ _ b c.if-len-start.true))

pub walk-requires : goal.walk-requires
walk-requires c =
    let b = opened-start _ _ _ (sym c.«open».ensures ∙ c.in_ok-start.was) in
    record { head = b.head; place = b.place; room = b.room; whole = c.if-len-start.false }

pub returns-in_err-noted : goal.returns-in_err-noted
unfolding listed_as
returns-in_err-noted c =
    let b = opened-start _ _ _ (sym c.«open».ensures ∙ c.in_ok-start.was) in
    let h : c.from_residual-in_err-noted.result ≡ Err c.in_err-noted.field-0.0 = search rules in
    h ∙ sym (ap (listed_as _) (list-refused _ _ b _ _ _ (sym c.walk.ensures ∙ c.in_err-noted.was)))

pub returns : goal.returns
returns c =
    let b = opened-start _ _ _ (sym c.«open».ensures ∙ c.in_ok-start.was) in
    c.chunks.ensures ∙ list-noted _ _ b _ (sym c.walk.ensures ∙ c.in_ok-noted.was)
