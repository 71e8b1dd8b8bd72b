-- An accepted file: what the scan's answer tells of its bytes, and what has to hold of them for that answer.
-- Assumes nothing.
use mathlib.Core.Path.{◌≡◌, ◌∙◌, subst}
use mathlib.Core.List.{List}
use Prim.Native.Nat.{ℕ}
use Rattle.chunk.specs.Refusals.{Ok}
use Rattle.chunk.specs.Names.{FMT, DATA}
use Rattle.chunk.specs.Tables.{find}
use Rattle.chunk.proofs.Checks.{given-inj, and_then-given, and_then-at}
use Rattle.fmt.specs.declared.Format.{Format}
use Rattle.listing.specs.Listings.{Listing, listing}
use Rattle.listing.proofs.Checked.{Checked, listing-checked, checked-listing}
use Rattle.wave.specs.Scans.{payload, judged, Scan, listing_of, scan}

pub record Scanned (s : List ℕ) (a : Scan) : Type 0 where
  pub listed : Checked s (record { head = a.head; rows = a.rows })
  pub format : judged (payload (find FMT a.rows) s) (find DATA a.rows).size ≡ Ok a.format

pub scan-scanned : (s : List ℕ) (a : Scan) → scan s ≡ Ok a → Scanned s a
unfolding scan
scan-scanned s a e =
    let c1 = and_then-given (listing s) _ a e in
    let c2 = and_then-given (judged (payload (find FMT c1.0.rows) s) (find DATA c1.0.rows).size) _ a c1.2 in
    gather c1.0 c2.0 c1.1 c2.1 (given-inj _ _ c2.2)
  where
    gather : (l : Listing) (f : Format) → listing s ≡ Ok l
        → judged (payload (find FMT l.rows) s) (find DATA l.rows).size ≡ Ok f
        → record { head = l.head; rows = l.rows; format = f } ≡ a → Scanned s a
    gather l f p q is = subst (Scanned s) is (record { listed = listing-checked s l p; format = q })

pub scanned-scan : (s : List ℕ) (a : Scan) → Scanned s a → scan s ≡ Ok a
unfolding scan
scanned-scan s a h =
    and_then-at (listing s) _ (record { head = a.head; rows = a.rows }) (checked-listing s _ h.listed)
    ∙ and_then-at (judged (payload (find FMT a.rows) s) (find DATA a.rows).size) _ a.format h.format

-- an accepted file is listed, with the same table
pub scan-listed : (s : List ℕ) (a : Scan) → scan s ≡ Ok a → listing s ≡ Ok (listing_of a)
scan-listed s a e = checked-listing s (listing_of a) (scan-scanned s a e).listed
