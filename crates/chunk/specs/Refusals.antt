-- The refusals with the documents' numbers, and how checks are put one after the other.
use Rattle.std.specs.Prelude.{ℕ, Bool, ⊤}
pub use Rattle.std.specs.Prelude.{Result, Ok, Err}
use Rattle.le.specs.Choice.{pick}
use Rattle.chunk.specs.declared.Refusal.{Refusal}
use Rattle.chunk.specs.declared.Refusal.TheVariants.{TooShort, NotWave, Unfinished, BadDs64, BadFormSize, CutHeader, TooMany, UnknownSize, PastEnd, BadChunkSet, BadFmt, RaggedAudio, BadBext, BadChna, BadRecord, TooLarge, ShortOutput, Already64, NoReserve, StaleListing}

-- the document's number of each refusal
abbrev pub refusal_number : Refusal → ℕ
refusal_number TooShort = 1
refusal_number NotWave = 2
refusal_number Unfinished = 3
refusal_number BadDs64 = 4
refusal_number BadFormSize = 5
refusal_number CutHeader = 6
refusal_number TooMany = 9
refusal_number UnknownSize = 7
refusal_number PastEnd = 8
refusal_number BadChunkSet = 10
refusal_number BadFmt = 11
refusal_number RaggedAudio = 12
refusal_number BadBext = 13
refusal_number BadChna = 14
refusal_number BadRecord = 16
refusal_number TooLarge = 17
refusal_number ShortOutput = 15
refusal_number Already64 = 18
refusal_number NoReserve = 19
refusal_number StaleListing = 24

-- an answer: a value, or a refusal
abbrev pub Answer : Type 0 → Type 0
Answer A = Result A Refusal

-- the answer where the check holds, else the refusal
unfoldable pub check : {A : Type 0} → Bool → Refusal → Answer A → Answer A
unfolding pick
check b r k = pick b k (Err r)

-- a refusal, or what follows from the value
unfoldable pub and_then : {A B : Type 0} → Answer A → (A → Answer B) → Answer B
and_then (Err r) k = Err r
and_then (Ok a) k = k a

-- how an answer ends
abbrev pub Verdict : Type 0
Verdict = Answer ⊤

unfoldable pub verdict_of : {A : Type 0} → Answer A → Verdict
verdict_of (Err r) = Err r
verdict_of (Ok a) = Ok tt

-- the number of an answer: 0 where nothing is refused
abbrev pub number_of : {A : Type 0} → Answer A → ℕ
number_of (Ok a) = 0
number_of (Err r) = refusal_number r
