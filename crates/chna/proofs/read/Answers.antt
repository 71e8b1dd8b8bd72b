-- `chna::read` meets its contract: each exit is one outcome of the definition.
use Rattle.std.proofs.Common.{◌≡◌, ◌∙◌, sym, ap, ap₂, List, ℕ, ◌-◌, Bool, length, take, drop}
use Rattle.le.specs.Number.{number}
use Rattle.chna.specs.Records.{whole_of, whole_in, whole_good}
use Rattle.chna.proofs.Answers.{length-short, length-ragged, length-good, bad-length, bad-record, record-read, tail}
use Rattle.chna.proofs.read.Goals as goal
use Rattle.chna.proofs.read.Goals.{then-payload-lt4-via-then-payload-lt4, then-payload-lt4-via-else-payload-lt4+then-payload-ne0}

-- the judgement that the code asks for is the definition's
judged : (channels tracks uids : ℕ) (p : List ℕ) (good : Bool) → tracks ≡ number 2 0 p → uids ≡ number 2 2 p
    → good ≡ whole_good channels (whole_of tracks uids (take (length p - 4) (drop 4 p)))
    → whole_good channels (whole_in p) ≡ good
unfolding whole_in
judged channels tracks uids p good t u e =
    ap₂ (λ (x y : ℕ). whole_good channels (whole_of x y (drop 4 p))) (sym t) (sym u)
    ∙ ap (λ (s : List ℕ). whole_good channels (whole_of tracks uids s)) (tail p)
    ∙ sym e

pub returns-then-payload-lt4 : goal.returns-then-payload-lt4
returns-then-payload-lt4 c = elim c.then-payload-lt4.branch [
  | then-payload-lt4-via-then-payload-lt4 w ↦ bad-length _ _ (length-short _ w.if-payload-lt4.true)
  | then-payload-lt4-via-else-payload-lt4+then-payload-ne0 w ↦
      bad-length _ _ (length-ragged _ w.if-payload-lt4.false w.if-payload-ne0.true)
]

pub returns-then-not-whole_good : goal.returns-then-not-whole_good
returns-then-not-whole_good c =
    bad-record _ _ (length-good _ c.if-payload-lt4.false c.if-payload-ne0.false)
    (judged _ _ _ _ _ c.read-tracks.ensures.is c.read-uids.ensures.is c.whole_good.ensures ∙ c.if-not-whole_good.true)

pub returns : goal.returns
returns c =
    record-read _ _ _ _ (length-good _ c.if-payload-lt4.false c.if-payload-ne0.false)
    (judged _ _ _ _ _ c.read-tracks.ensures.is c.read-uids.ensures.is c.whole_good.ensures ∙ c.if-not-whole_good.false)
    c.read-tracks.ensures.is
    c.read-uids.ensures.is
