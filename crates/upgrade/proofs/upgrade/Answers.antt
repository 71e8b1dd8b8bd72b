-- `upgrade::upgrade` meets its contract: the scan's refusal, 18, 19, or the stores; demand 3 follows.
use Rattle.std.proofs.Common.{◌≡◌, ℕ, List, sym, ◌∙◌, ap, rules, Ok, Err, Some, None}
use Rattle.le.specs.Number.{Bytes}
use Rattle.chunk.specs.declared.Refusal.TheVariants.{NoReserve}
use Rattle.chunk.specs.Refusals.{Answer}
use Rattle.form.specs.Forms.{is_wide}
use Rattle.wave.specs.declared.judgement.Accepted.{Accepted}
use Rattle.wave.specs.Scans.{scan}
use Rattle.wave.specs.Code.{examined_as}
use Rattle.wave.proofs.Judgements.{examined-refused, examined-accepted}
use Rattle.upgrade.specs.declared.Changes.{Changes}
use Rattle.upgrade.specs.declared.Reserve.{Reserve}
use Rattle.upgrade.specs.Code.{Knows, stores}
use Rattle.upgrade.specs.Upgrades.{patched}
use Rattle.upgrade.specs.Words.{UpgradeDone}
use Rattle.upgrade.proofs.Makes.{done-scan, done-wide, done-unreserved, inside, done-stored}
use Rattle.upgrade.proofs.ForTheCode.{keeps}
use Rattle.upgrade.proofs.upgrade.Goals as goal

pub returns-in_err-a : goal.returns-in_err-a
unfolding Bytes
returns-in_err-a c =
    let h : c.from_residual.result ≡ Err c.in_err-a.field-0.0 = search rules in
    let d : UpgradeDone c.args.target c.args.file.now c.from_residual.result c.args.file.now =
    rw h (done-scan _ _ _ (examined-refused _ _ _ (sym c.in_err-a.ensures))) in
    record { upgrade_done = d; demand3 = keeps _ _ _ _ (λ n. search rules) d }

known : (s : List ℕ) (a : Accepted) → Ok a ≡ examined_as s (scan s) → Knows s a
known s a e =
    let k = examined-accepted _ _ _ (sym e) in
    record { scanned = k.scan; is = k.is; known = k.known }

pub returns-in-Rf64 : goal.returns-in-Rf64
unfolding Bytes is_wide
returns-in-Rf64 c =
    let d = done-wide _ _ (known _ _ c.in_ok-a.ensures) _ (ap is_wide c.in-Rf64.is) in
    record { upgrade_done = d; demand3 = keeps _ _ _ _ (λ n. search rules) d }

pub returns-in-Bw64 : goal.returns-in-Bw64
unfolding Bytes is_wide
returns-in-Bw64 c =
    let d = done-wide _ _ (known _ _ c.in_ok-a.ensures) _ (ap is_wide c.in-Bw64.is) in
    record { upgrade_done = d; demand3 = keeps _ _ _ _ (λ n. search rules) d }

pub returns-in_err-ok_or : goal.returns-in_err-ok_or
unfolding Bytes is_wide
returns-in_err-ok_or c =
    let none : c.of.result ≡ None = c.in_err-ok_or.ensures.ok_part in
    let e : c.from_residual-in_err-ok_or.result ≡ Err c.in_err-ok_or.field-0.0 = search rules in
    let v : ◌≡◌ {A = Answer Reserve} (Err c.in_err-ok_or.field-0.0) (Err NoReserve) =
    rw none at c.in_err-ok_or.ensures.value in
    let h : c.from_residual-in_err-ok_or.result ≡ Err NoReserve = cc in
    let d : UpgradeDone c.args.target c.args.file.now c.from_residual-in_err-ok_or.result c.args.file.now =
    rw h (done-unreserved _ _ (known _ _ c.in_ok-a.ensures) (ap is_wide c.in-Riff.is) _ (sym c.of.ensures ∙ none)) in
    record { upgrade_done = d; demand3 = keeps _ _ _ _ (λ n. search rules) d }

pub of-requires-2 : goal.of-requires-2
of-requires-2 c = known _ _ c.in_ok-a.ensures

pub make-requires : goal.make-requires
unfolding is_wide
make-requires c =
    let some : c.of.result ≡ Some c.in_ok-ok_or.field-0 = c.in_ok-ok_or.ensures.ok_part in
    rw c.of-2.ensures (inside _ _ (known _ _ c.in_ok-a.ensures) (ap is_wide c.in-Riff.is) _ _ (sym c.of.ensures ∙ some))

pub returns : goal.returns
unfolding Bytes is_wide
returns c =
    let some : c.of.result ≡ Some c.in_ok-ok_or.field-0 = c.in_ok-ok_or.ensures.ok_part in
    let d =
    done-stored _ _ (known _ _ c.in_ok-a.ensures) (ap is_wide c.in-Riff.is) _ _ (sym c.of.ensures ∙ some) _
    (c.make.ensures ∙ ap (λ (w : Changes). patched (stores w) c.args.file.now) c.of-2.ensures) in
    record { upgrade_done = d; demand3 = keeps _ _ _ _ (λ n. search rules) d }
