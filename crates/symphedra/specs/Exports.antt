-- What the C interface answers, as include/symphedra.h lays it out: of the bytes and words that are lent to an export, the
-- number that it returns, and the bytes and words after it. The records' exports have theirs in crate records.
use Rattle.std.specs.Prelude.{ℕ, ◌≡◌, List}
use Rattle.std.proofs.lemmas.List.Edits.{sets}
use Rattle.chunk.specs.Refusals.{Answer, number_of, verdict_of}
use Rattle.chunk.specs.Tables.{tabled, WORDS}
use Rattle.form.specs.declared.Form.{Form}
use Rattle.form.specs.declared.Form.TheVariants as form
use Rattle.listing.specs.Listings.{listing}
use Rattle.wave.specs.Scans.{scan, rows_of, listed_rows, walk32}
use Rattle.wave.specs.Judgements.{judgement}
use Rattle.samples.specs.Counts.{samples_of, samples_values}
use Rattle.upgrade.specs.declared.Target.{Target}
use Rattle.upgrade.specs.declared.Target.TheVariants as target
use Rattle.upgrade.specs.Upgrades.{upgraded}
use Rattle.upgrade.specs.Words.{file_after}
use Rattle.file.specs.Files.{file_out}
use Rattle.words.specs.Answers.{Answers, WritesOut}
use Rattle.records.specs.Writing.{of_nine}

-- symphedra_scan
abbrev pub Scans : (file w : List ℕ) (r : ℕ) (w' : List ℕ) → Type 0
Scans s w r w' = Answers WORDS (number_of (verdict_of (scan s))) (tabled (rows_of (scan s)) w) w r w'

-- symphedra_list
abbrev pub Lists : (file w : List ℕ) (r : ℕ) (w' : List ℕ) → Type 0
Lists s w r w' = Answers WORDS (number_of (verdict_of (listing s))) (tabled (listed_rows (listing s)) w) w r w'

-- symphedra_judge, which is lent its words to read
abbrev pub Judges : (file w : List ℕ) (r : ℕ) → Type 0
Judges s w r = r ≡ number_of (verdict_of (judgement s w))

-- symphedra_walk32
abbrev pub Walks32 : (file w : List ℕ) (r : ℕ) (w' : List ℕ) → Type 0
Walks32 s w r w' = Answers WORDS (number_of (walk32 s).end) (tabled (walk32 s).rows w) w r w'

-- symphedra_sample_count
abbrev pub Counts : (file w : List ℕ) (r : ℕ) (w' : List ℕ) → Type 0
Counts s w r w' = Answers 2 (number_of (samples_of s)) (sets w 0 (samples_values (samples_of s))) w r w'

-- symphedra_upgrade_rf64 and symphedra_upgrade_bw64
pub record Upgrades (t : Target) (s : List ℕ) (r : ℕ) (u : List ℕ) : Type 0 where
  pub number : r ≡ number_of (verdict_of (upgraded t s))
  pub bytes : u ≡ file_after s (upgraded t s)

abbrev pub rf64 : Target
rf64 = target.Rf64

abbrev pub bw64 : Target
bw64 = target.Bw64

-- the file of a format record in these words, of payloads and of audio
unfoldable pub file_of : Form → List ℕ → List ℕ → List ℕ → List ℕ → Answer (List ℕ)
file_of f w b c a = of_nine w λ r. file_out f r b c a

-- symphedra_write_riff, symphedra_write_rf64 and symphedra_write_bw64
abbrev pub WritesFile : Form → (fmt bext chna audio out w : List ℕ) (r : ℕ) (out' w' : List ℕ) → Type 0
WritesFile f fmt b c a out w r out' w' = WritesOut (file_of f fmt b c a) out w r out' w'

abbrev pub riff_form : Form
riff_form = form.Riff

abbrev pub rf64_form : Form
rf64_form = form.Rf64

abbrev pub bw64_form : Form
bw64_form = form.Bw64
