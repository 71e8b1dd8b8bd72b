-- `samples::sample_count` meets its contract: a law for each thing that the scan may know of fact.
use Rattle.std.proofs.Common.{length, ◌+◌, ◌≤◌, Option, rules, ◌≡◌, sym, ◌∙◌, ap₂, ap}
use Prim.Native.Nat.{ℕ}
use Rattle.std.specs.Prelude.{Some, None, Ok, Err}
use Rattle.std.specs.Option.{MatchOption, IsSomeAnd, option_map}
use Rattle.le.specs.Number.{number}
use Rattle.form.specs.declared.Head.{Head}
use Rattle.samples.specs.Counts.{fact_count}
use Rattle.samples.proofs.Counts.{samples-map, samples-given, samples-refused}
use Rattle.wave.proofs.Judgements.{examined-refused, examined-accepted, fact-at}
use Rattle.samples.proofs.sample_count.Goals as goal

pub returns-in_err-a : goal.returns-in_err-a
returns-in_err-a c =
    let h : c.from_residual.result ≡ Err c.in_err-a.field-0.0 = search rules in
    h ∙ sym (samples-refused _ _ (examined-refused _ _ _ (sym c.in_err-a.ensures)))

pub map-requires : goal.map-requires
map-requires c x e =
    let k = examined-accepted _ _ _ (sym c.in_ok-a.ensures) in
    let h : x + 4 ≤ length c.args.file.now = (fact-at _ _ _ k.is (sym k.fact ∙ e)).inside in
    search rules

-- what a closure makes of an option, where it makes one thing of each value
told : (o r : Option ℕ) (f : ℕ → ℕ) (P : ℕ → ℕ → Type 0) → MatchOption o (r ≡ None) (λ x. IsSomeAnd r (P x))
    → ((x y : ℕ) → P x y → y ≡ f x) → r ≡ option_map f o
told None r f P m g = m
told (Some x) None f P m g = absurd m
told (Some x) (Some y) f P m g = ap Some (g x y m)

pub returns : goal.returns
returns c =
    let k = examined-accepted _ _ _ (sym c.in_ok-a.ensures) in
    let m : c.map.result ≡ option_map (λ p. fact_count c.in_ok-a.a.head.form c.in_ok-a.a.head.ds64.third (number 4 p c.args.file.now)) c.in_ok-a.a.fact =
    told _ _ _ _ c.map.ensures.cases (λ x y p. search rules) in
    ap Ok
    (m
    ∙ ap₂ (λ (h : Head) (o : Option ℕ). option_map (λ p. fact_count h.form h.ds64.third (number 4 p c.args.file.now)) o) k.head k.fact
    ∙ sym (samples-map k.scan c.args.file.now))
    ∙ sym (samples-given _ _ k.is)
