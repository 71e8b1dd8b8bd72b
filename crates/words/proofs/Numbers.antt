-- No refusal has the number 0.
-- Assumes nothing.
use mathlib.Core.Path.{◌≡◌, refl}
use Prim.Native.Nat.{◌≤◌}
use native.Mathlib.Omega.{arith}
use lib.Dec.{lit≤}
use Rattle.chunk.specs.declared.Refusal.{Refusal}
use Rattle.chunk.specs.declared.Refusal.TheVariants.{TooShort, NotWave, Unfinished, BadDs64, BadFormSize, CutHeader, TooMany, UnknownSize, PastEnd, BadChunkSet, BadFmt, RaggedAudio, BadBext, BadChna, BadRecord, TooLarge, ShortOutput, Already64, NoReserve, StaleListing}
use Rattle.chunk.specs.Refusals.{refusal_number, number_of, Answer, Err, Ok, verdict_of}

pub refusal-number : (r : Refusal) → 1 ≤ refusal_number r
refusal-number TooShort = lit≤ tt
refusal-number NotWave = lit≤ tt
refusal-number Unfinished = lit≤ tt
refusal-number BadDs64 = lit≤ tt
refusal-number BadFormSize = lit≤ tt
refusal-number CutHeader = lit≤ tt
refusal-number TooMany = lit≤ tt
refusal-number UnknownSize = lit≤ tt
refusal-number PastEnd = lit≤ tt
refusal-number BadChunkSet = lit≤ tt
refusal-number BadFmt = lit≤ tt
refusal-number RaggedAudio = lit≤ tt
refusal-number BadBext = lit≤ tt
refusal-number BadChna = lit≤ tt
refusal-number BadRecord = lit≤ tt
refusal-number TooLarge = lit≤ tt
refusal-number ShortOutput = lit≤ tt
refusal-number Already64 = lit≤ tt
refusal-number NoReserve = lit≤ tt
refusal-number StaleListing = lit≤ tt

-- so an answer whose number is 0 has a value
pub accepted : {A : Type 0} (x : Answer A) → number_of (verdict_of x) ≡ 0 → (a : A) × (x ≡ Ok a)
unfolding verdict_of
accepted (Err r) e = absurd (omega (arith, e, refusal-number r))
accepted (Ok a) e = (a, refl)
