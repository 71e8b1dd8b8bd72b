-- What a survey says of a file is its listing and its judgement: one law for each outcome, and what each outcome tells.
use mathlib.Core.Path.{◌≡◌, refl, sym, ap, ◌∙◌, subst}
use mathlib.Core.List.{List}
use Prim.Native.Nat.{ℕ}
use Rattle.chunk.specs.declared.Refusal.{Refusal}
use Rattle.chunk.specs.Refusals.{Answer, Err, Ok, and_then}
use Rattle.chunk.proofs.Checks.{given-inj, and_then-given, and_then-at, and_then-refused}
use Rattle.fmt.specs.declared.Format.{Format}
use Rattle.listing.specs.declared.Listing as code
use Rattle.wave.specs.declared.judgement.Surveyed.{Surveyed}
use Rattle.listing.specs.Listings.{listing}
use Rattle.listing.specs.Code.{listed_as, Fresh}
use Rattle.listing.proofs.Listings.{listed-refused, keeps}
use Rattle.wave.specs.Scans.{scan}
use Rattle.wave.specs.Code.{judge_of, known_of, surveyed_of, surveyed_as, examined_as}
use Rattle.wave.proofs.Judgements.{scan-judge}

-- ---- the judgement of a fresh listing is the scan's

module _ (s : List ℕ) (k : code.Listing) (f : Fresh s k) where
  pub fresh-judge : and_then (judge_of k s) (λ g. Ok (known_of k g)) ≡ examined_as s (scan s)
  fresh-judge =
      let y = keeps s k f in
      ap (λ (x : code.Listing). and_then (judge_of x s) (λ g. Ok (known_of x g))) y.kept ∙ scan-judge s y.listing y.is

  pub fresh-bad : (r : Refusal) → judge_of k s ≡ Err r → examined_as s (scan s) ≡ Err r
  fresh-bad r e = sym fresh-judge ∙ and_then-refused _ _ r e

  pub fresh-good : (g : Format) → judge_of k s ≡ Ok g → examined_as s (scan s) ≡ Ok (known_of k g)
  fresh-good g e = sym fresh-judge ∙ and_then-at _ _ g e

-- ---- what is surveyed

pub survey-none : (s : List ℕ) (r : Refusal) → listed_as s (listing s) ≡ Err r → surveyed_as s (listing s) ≡ Err r
unfolding surveyed_as
survey-none s r e = and_then-refused _ _ r e

pub survey-listed : (s : List ℕ) (k : code.Listing) → Fresh s k → surveyed_as s (listing s) ≡ Ok (surveyed_of s k)
unfolding surveyed_as
survey-listed s k f = and_then-at _ _ k f

-- ---- what a survey tells

pub surveyed-none : (s : List ℕ) (r : Refusal) → surveyed_as s (listing s) ≡ Err r → listing s ≡ Err r
unfolding surveyed_as and_then
surveyed-none s r e = listed-refused s (listing s) r (go (listed_as s (listing s)) e)
  where
    go : (x : Answer code.Listing) → and_then x (λ k. Ok (surveyed_of s k)) ≡ Err r → x ≡ Err r
    go (Err q) p = cc
    go (Ok k) p = cc

-- a listing that is fresh, and its judgement
pub record Tells (s : List ℕ) (v : Surveyed) : Type 0 where
  pub fresh : Fresh s v.listing
  pub said : v.said ≡ judge_of v.listing s

pub surveyed-tells : (s : List ℕ) (v : Surveyed) → surveyed_as s (listing s) ≡ Ok v → Tells s v
unfolding surveyed_as surveyed_of
surveyed-tells s v e =
    let k = and_then-given (listed_as s (listing s)) _ v e in
    let p : surveyed_of s k.0 ≡ v = given-inj _ _ k.2 in
    subst (Tells s) p (record { fresh = k.1; said = refl })
