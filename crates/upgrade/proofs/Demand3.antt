-- Demand 3: the upgrade's outcomes, and what an upgraded take is, put together with the first half.
-- Assumes nothing.
use mathlib.Core.Path.{◌≡◌, ap, subst}
use mathlib.Core.Bool.{false}
use mathlib.Core.List.{List, [], ◌∷◌}
use Prim.Native.Nat.{ℕ}
use Rattle.le.specs.Number.{Bytes}
use Rattle.chunk.specs.declared.Entry.{Entry}
use Rattle.chunk.specs.declared.TrueSize.{TrueSize}
use Rattle.chunk.specs.Refusals.{Ok}
use Rattle.chunk.proofs.Laid.{laid-lies}
use Rattle.truesize.proofs.Sizes.{own_is, riff-own}
use Rattle.form.specs.declared.Form.{Form}
use Rattle.form.specs.declared.Form.TheVariants.{Riff}
use Rattle.form.specs.declared.Head.{Head}
use Rattle.form.specs.Forms.{is_wide}
use Rattle.fmt.specs.declared.Format.{Format}
use Rattle.wave.specs.Scans.{Scan, scan}
use Rattle.wave.proofs.Scanned.{scan-scanned}
use Rattle.wave.proofs.FirstHalf.{says-own, first-half}
use Rattle.upgrade.specs.declared.Target.{Target}
use Rattle.upgrade.specs.Upgrades.{patches, patched}
use Rattle.upgrade.specs.Demand3.{Reserved, Upgraded, SecondHalf, Demand3}
use Rattle.upgrade.proofs.Takes.{take, Take}
use Rattle.upgrade.proofs.Outcomes.{reserved-true, true-reserved, not-reserved, upgrade-unreserved, upgrade-given, upgrade-succeeded}
use Rattle.upgrade.proofs.Upgraded.{take-upgraded}

-- a take is a table whose first chunk is the reserve
upgraded-take : (t : Target) (s : List ℕ) (h : Head) (rows : List Entry) (f : Format) → Bytes s
    → scan s ≡ Ok (record { head = h; rows = rows; format = f }) → h.form ≡ Riff → Reserved rows
    → Upgraded t s (record { head = h; rows = rows; format = f })
    (patched (patches t (record { head = h; rows = rows; format = f }) s) s)
unfolding Reserved
upgraded-take t s h [] f bytes e riff r = absurd r
upgraded-take t s h (j ∷ rest) f bytes e riff r =
    let c = scan-scanned s (take h j rest f) e in
    let k : Take s h j rest = record { bytes = bytes; riff = riff; listed = c.listed; junk = r.0; holds = r.1 } in
    take-upgraded t s h j rest f k e c.format

riff-narrow : (f : Form) → f ≡ Riff → is_wide f ≡ false
unfolding is_wide
riff-narrow f e = rw e

-- Demand 3, second half.
pub second-half : (t : Target) (s : List ℕ) (a : Scan) → Bytes s → scan s ≡ Ok a → a.head.form ≡ Riff → SecondHalf t s a
second-half t s a bytes e riff =
    let w = riff-narrow a.head.form riff in
    record {
      succeeds = (
        (λ p. reserved-true a.rows (upgrade-succeeded t s a e w p.0 p.1).0),
        (λ r. (patched (patches t a s) s, upgrade-given t s a e w (true-reserved a.rows r))),
      );
      otherwise = λ n. upgrade-unreserved t s a e w (not-reserved a.rows n);
      before = λ x m.
          let l = (laid-lies (scan-scanned s a e).listed.laid m).sized in
          ap (λ (z : TrueSize). z.source) (own_is a.head _ _ _ _ _ l (riff-own a.head _ _ _ _ _ l riff));
      after = λ u p.
          let c = upgrade-succeeded t s a e w u p in
          let r = reserved-true a.rows c.0 in
          subst (Upgraded t s a) c.1 (upgraded-take t s a.head a.rows a.format bytes e riff r);
    }

-- Demand 3, whole.
pub demand-3 : Demand3
demand-3 = record { first = first-half; own = says-own; second = second-half }
