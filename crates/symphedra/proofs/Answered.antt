-- How the answers of scan, listing, walk and upgrade become those of their exports.
-- Assumes nothing.
use mathlib.Core.Path.{◌≡◌, refl, ◌∙◌, ap}
use mathlib.Core.List.{List}
use mathlib.Core.Bool.{Bool, true, false}
use Prim.Native.Nat.{ℕ}
use lib.ListN.{length}
use lib.Dec.{leb}
use Rattle.le.specs.Choice.{pick}
use Rattle.chunk.specs.declared.Entry.{Entry}
use Rattle.chunk.specs.declared.Refusal.TheVariants.{ShortOutput}
use Rattle.chunk.specs.Refusals.{Err, Verdict, number_of}
use Rattle.wave.specs.Words.{Done}
use Rattle.words.specs.Answers.{Answers}
use Rattle.chunk.specs.Tables.{tabled, WORDS}
use Rattle.upgrade.specs.declared.Target.{Target}
use Rattle.upgrade.specs.Words.{UpgradeDone}
use Rattle.symphedra.specs.Exports.{Upgrades}

-- the number of a verdict that has 15 where the words are too few
numbered : (b : Bool) (v : Verdict) → number_of (pick b v (Err ShortOutput)) ≡ pick b (number_of v) 15
unfolding pick
numbered true v = refl
numbered false v = refl

-- of a table into words: scan, listing and walk
pub done-number : (v : Verdict) (rows : List Entry) (w w' : List ℕ) (e : Verdict) (r : ℕ) → Done v rows w e w' → r ≡ number_of e
    → Answers WORDS (number_of v) (tabled rows w) w r w'
done-number v rows w w' e r d n =
    record { returns = n ∙ ap number_of d.verdict ∙ numbered (leb WORDS (length w)) v; words = d.words }

pub upgrade-number : (t : Target) (s u : List ℕ) (v : Verdict) (r : ℕ) → UpgradeDone t s v u → r ≡ number_of v → Upgrades t s r u
upgrade-number t s u v r d n = record { number = n ∙ ap number_of d.verdict; bytes = d.bytes }
