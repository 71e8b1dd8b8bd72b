-- `chna::whole_good` meets its contract: each turn of the loop adds one entry in front of those that it has looked at
-- (`Counted`).
use Rattle.std.proofs.Common.{arith, ◌≡◌, ◌∙◌, sym, subst, ap, refl, ℕ, List, suc, ◌+◌, ◌-◌, ◌*◌, ◌/◌, ◌%◌, ◌<◌, ◌≤◌, eqb, get_or}
use Rattle.std.proofs.lemmas.Bool.{eq-eqb, ne_eqb}
use Rattle.le.specs.Number.{field, number}
use Rattle.le.specs.Choice.{pick}
use Rattle.chna_entry.specs.Ids.{fits, UNUSED}
use Rattle.chna_entry.specs.Entries.{used_in, used_good}
use Rattle.chna_entry.proofs.Patterns.{both}
use Rattle.chna.specs.Records.{whole_of, whole_good}
use Rattle.chna.proofs.Marks.{bit, marked, unset}
use Rattle.chna.proofs.Counts.{lent, Counted, at-end, moved, one-unused, one-used, one-bad, too_many, all-counted}
use Rattle.chna.proofs.whole_good.Goals as goal

-- what is known of the entries as a turn begins, whose entry is the last of those left
turned : (channels : ℕ) (entries : List ℕ) (left : ℕ) (marks : List ℕ) (different used : ℕ)
    → 0 < left → Counted channels entries left marks different used → Counted channels entries (suc (left - 1)) marks different used
turned channels entries left marks different used h known =
    let k : left ≡ suc (left - 1) = omega arith in
    subst (λ (n : ℕ). Counted channels entries n marks different used) k known

-- once none is left, only the counts are to be asked
counted : (channels : ℕ) (entries : List ℕ) (left : ℕ) (marks : List ℕ) (different used tracks uids : ℕ)
    → left ≤ 0 → Counted channels entries left marks different used
    → whole_good channels (whole_of tracks uids entries) ≡ both (eqb uids used) (eqb tracks different)
counted channels entries left marks different used tracks uids h known =
    let k : left ≡ 0 = omega arith in
    all-counted channels entries marks different used tracks uids
    (subst (λ (n : ℕ). Counted channels entries n marks different used) k known)

pub returns-then-count-gt-LIMIT : goal.returns-then-count-gt-LIMIT
returns-then-count-gt-LIMIT c = sym (too_many _ _ _ _ (omega arith))

pub loop-i-init : goal.loop-i-init
loop-i-init c = at-end _ _ (omega arith)

pub loop-i-preserved-then-is_unused : goal.loop-i-preserved-then-is_unused
loop-i-preserved-then-is_unused c =
    let a = c.args in
    let l = c.loop-i in
    one-unused a.channels a.entries.now (l.i - 1) l.marks l.different l.used
    (ap (fits UNUSED) (lent ((l.i - 1) * 40) a.entries.now) ∙ sym c.is_unused.ensures ∙ c.if-is_unused.true)
    (turned _ _ _ _ _ _ (omega arith) l.invariant)

pub returns-then-not-used_good : goal.returns-then-not-used_good
returns-then-not-used_good c =
    let a = c.args in
    let l = c.loop-i in
    let e = lent ((l.i - 1) * 40) a.entries.now in
    sym (one-bad a.channels a.entries.now (l.i - 1) l.marks l.different l.used a.tracks a.uids
    (ap (fits UNUSED) e ∙ sym c.is_unused.ensures ∙ c.if-is_unused.false)
    (ap (λ (s : List ℕ). used_good a.channels (used_in s)) e ∙ sym c.used_good.ensures ∙ c.if-not-used_good.true)
    (turned _ _ _ _ _ _ (omega arith) l.invariant))

pub loop-i-preserved : goal.loop-i-preserved
unfolding bit marked
loop-i-preserved c =
    let a = c.args in
    let l = c.loop-i in
    let at : ℕ = (l.i - 1) * 40 in
    let e = lent at a.entries.now in
    let r = c.read-index in
    let i : ℕ = number 2 0 (field 40 at a.entries.now) in
    let q : i ≡ r.result = ap (number 2 0) e ∙ sym r.ensures.is in
    moved a.channels a.entries.now (l.i - 1) (marked l.marks i) _ (l.different + (1 - bit l.marks i)) _ (l.used + 1)
    (ap (marked l.marks) q)
    (ap (λ (k : ℕ). l.different + (1 - bit l.marks k)) q
    ∙ ap (λ (x : ℕ). l.different + x) (sym (c.from-different.ensures ∙ unset (get_or l.marks (r.result / 64) 0) (r.result % 64) (omega arith))))
    (one-used a.channels a.entries.now (l.i - 1) l.marks l.different l.used
    (ap (fits UNUSED) e ∙ sym c.is_unused.ensures ∙ c.if-is_unused.false)
    (ap (λ (s : List ℕ). used_good a.channels (used_in s)) e ∙ sym c.used_good.ensures ∙ c.if-not-used_good.false)
    (omega (arith, q, r.ensures.below))
    (turned _ _ _ _ _ _ (omega arith) l.invariant))

pub returns-then-uids-used : goal.returns-then-uids-used
unfolding pick
returns-then-uids-used c =
    rw (counted _ _ _ _ _ _ c.args.tracks c.args.uids (omega arith) c.loop-i.invariant, eq-eqb _ _ c.if-uids-used.true) refl

pub returns-else-uids-used : goal.returns-else-uids-used
unfolding pick
returns-else-uids-used c =
    rw (counted _ _ _ _ _ _ c.args.tracks c.args.uids (omega arith) c.loop-i.invariant, ne_eqb _ _ c.if-uids-used.false) refl
