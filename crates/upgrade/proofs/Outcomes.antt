-- The upgrade's answer, one law an outcome: "the scan's own refusal, 18, 19", or the stores made.
-- Assumes nothing.
use mathlib.Core.Path.{◌≡◌, refl, sym, ◌∙◌, ap}
use mathlib.Core.Bool.{true, false, not}
use mathlib.Core.List.{List, [], ◌∷◌}
use Prim.Native.Nat.{ℕ}
use lib.Dec.{eqb, leb}
use borrow.Author.Tests.{eq-eqb, le-leb, leb-true, eqb-true}
use Rattle.std.proofs.lemmas.Bool.{false_from_ne_true}
use Rattle.chunk.specs.declared.Entry.{Entry}
use Rattle.chunk.specs.declared.Refusal.TheVariants.{NoReserve}
use Rattle.chunk.specs.Names.{JUNK}
use Rattle.chunk.specs.Refusals.{Err, Ok, check}
use Rattle.chunk.proofs.Checks.{true-false, given-inj, check-true, check-false, check-given, and_then-at, and_then-refused, and-true}
use Rattle.form.specs.Forms.{is_wide, LEAST}
use Rattle.wave.specs.Scans.{Scan, scan}
use Rattle.upgrade.specs.declared.Target.{Target}
use Rattle.upgrade.specs.Upgrades.{patches, patched, reserved, upgraded}
use Rattle.upgrade.specs.Demand3.{Reserved}
use Rattle.chunk.specs.declared.Refusal.{Refusal}
use Rattle.chunk.specs.declared.Refusal.TheVariants.{Already64}

-- ---- the reserve

pub reserved-true : (rows : List Entry) → reserved rows ≡ true → Reserved rows
unfolding reserved Reserved
reserved-true [] e = true-false false e refl
reserved-true (x ∷ xs) e =
    let c = and-true (eqb x.name JUNK) (leb LEAST x.size) e in
    (eqb-true x.name JUNK c.0, leb-true LEAST x.size c.1)

pub true-reserved : (rows : List Entry) → Reserved rows → reserved rows ≡ true
unfolding reserved Reserved
true-reserved [] r = absurd r
true-reserved (x ∷ xs) r = rw (eq-eqb x.name JUNK r.0, le-leb LEAST x.size r.1)

pub not-reserved : (rows : List Entry) → (Reserved rows → ⊥) → reserved rows ≡ false
not-reserved rows n = false_from_ne_true (reserved rows) (λ q. n (reserved-true rows q))

-- ---- the outcomes

pub upgrade_refused : (t : Target) (s : List ℕ) (r : Refusal) → scan s ≡ Err r → upgraded t s ≡ Err r
unfolding upgraded
upgrade_refused t s r e = and_then-refused (scan s) _ r e

module _ (t : Target) (s : List ℕ) (a : Scan) (e : scan s ≡ Ok a) where
  pub upgrade-wide : is_wide a.head.form ≡ true → upgraded t s ≡ Err Already64
  unfolding upgraded
  upgrade-wide w = and_then-at (scan s) _ a e ∙ check-false (not (is_wide a.head.form)) _ _ (ap not w)

  upgrade-riff : is_wide a.head.form ≡ false
      → upgraded t s ≡ check (reserved a.rows) NoReserve (Ok (patched (patches t a s) s))
  unfolding upgraded
  upgrade-riff w = and_then-at (scan s) _ a e ∙ check-true (not (is_wide a.head.form)) _ _ (ap not w)

  pub upgrade-unreserved : is_wide a.head.form ≡ false → reserved a.rows ≡ false → upgraded t s ≡ Err NoReserve
  upgrade-unreserved w r = upgrade-riff w ∙ check-false (reserved a.rows) _ _ r

  pub upgrade-given : is_wide a.head.form ≡ false → reserved a.rows ≡ true
      → upgraded t s ≡ Ok (patched (patches t a s) s)
  upgrade-given w r = upgrade-riff w ∙ check-true (reserved a.rows) _ _ r

  -- a success has a reserve, and its bytes are the rule's
  pub upgrade-succeeded : is_wide a.head.form ≡ false → (u : List ℕ) → upgraded t s ≡ Ok u
      → (reserved a.rows ≡ true) × (patched (patches t a s) s ≡ u)
  upgrade-succeeded w u p =
      let c = check-given (reserved a.rows) NoReserve (Ok (patched (patches t a s) s)) u (sym (upgrade-riff w) ∙ p) in
      (c.0, given-inj _ _ c.1)
