-- Demand 3 for the code: the contracts say that the code answers what the definitions answer, and the theorems say the rest.
-- Assumes nothing.
use mathlib.Core.Path.{◌≡◌, refl, sym, ◌∙◌, ap, subst}
use mathlib.Core.List.{List}
use Prim.Native.Nat.{ℕ}
use Rattle.le.specs.Number.{Bytes}
use Rattle.chunk.specs.Refusals.{Answer, Verdict, Err, Ok, verdict_of}
use Rattle.chunk.specs.Tables.{table_of}
use Rattle.chunk.specs.Walks.{Walked}
use Rattle.wave.specs.Scans.{Scan, scan, rows_of}
use Rattle.wave.specs.Words.{scan_table, walk_table}
use Rattle.wave.proofs.FirstHalf.{first-half}
use Rattle.upgrade.specs.declared.Target.{Target}
use Rattle.upgrade.specs.Upgrades.{upgraded}
use Rattle.upgrade.specs.Demand3.{Upgraded}
use Rattle.upgrade.specs.Words.{file_after, UpgradeDone}
use Rattle.upgrade.specs.ForTheCode.{Walks, KeepsDemand3, Demand3ForTheCode}
use Rattle.upgrade.proofs.Demand3.{second-half}

accepts : {A : Type 0} (x : Answer A) → verdict_of x ≡ Ok tt → (a : A) × (x ≡ Ok a)
unfolding verdict_of
accepts (Err r) e = cc
accepts (Ok a) e = (a, refl)

walks : (s : List ℕ) → (scan_table s).verdict ≡ Ok tt → Walks s
unfolding scan_table walk_table rows_of
walks s e =
    let a = accepts (scan s) e in
    record {
      accepted = a.0;
      is = a.1;
      table = ap (λ (x : Answer Scan). table_of (rows_of x)) a.1;
      walked = ap (λ (w : Walked). record { table = table_of w.rows; verdict = w.end }) (first-half s a.0 a.1).walk;
    }

pub keeps : (t : Target) (s : List ℕ) (r : Verdict) (u : List ℕ) → Bytes s → UpgradeDone t s r u → KeepsDemand3 t s r u
unfolding verdict_of file_after
keeps t s r u b d a e f =
    let h = second-half t s a b e f in
    let same : (v : List ℕ) → upgraded t s ≡ Ok v → u ≡ v = λ v q. d.bytes ∙ ap (file_after s) q in
    record {
      succeeds = (
        (λ q. let g = accepts (upgraded t s) (sym d.verdict ∙ q) in h.succeeds.0 g),
        (λ q. let g = h.succeeds.1 q in d.verdict ∙ ap verdict_of g.1),
      );
      otherwise = λ n. let q = h.otherwise n in (d.verdict ∙ ap verdict_of q, d.bytes ∙ ap (file_after s) q);
      after = λ q.
          let g = accepts (upgraded t s) (sym d.verdict ∙ q) in
          subst (Upgraded t s a) (sym (same g.0 g.1)) (h.after g.0 g.1);
    }

pub demand-3-for-the-code : Demand3ForTheCode
demand-3-for-the-code = record { walks = walks; upgrades = keeps }
