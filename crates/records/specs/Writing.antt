-- What the exported writers of records write, as include/symphedra.h lays it out.
use Rattle.std.specs.Prelude.{ℕ, List, length, get_or, Option, Some, None, eqb}
use Rattle.le.specs.Choice.{pick}
use Rattle.chunk.specs.declared.Refusal.TheVariants.{BadRecord}
use Rattle.chunk.specs.Refusals.{Answer, check}
use Rattle.fmt.specs.declared.Format.{Format}
use Rattle.fmt.specs.Writing.{format_out}
use Rattle.bext.specs.Records.{Whole}
use Rattle.bext.specs.Writing.{bext_out}
use Rattle.chna.specs.Records.{chna_from}
use Rattle.words.specs.Answers.{WritesOut}

-- nine words: payload size, tag, channels, rate, bytes a second, block, bits, valid bits, channel mask
unfoldable pub format_of : List ℕ → Format
format_of w =
    record {
      size = get_or w 0 0;
      tag = get_or w 1 0;
      channels = get_or w 2 0;
      rate = get_or w 3 0;
      byterate = get_or w 4 0;
      block = get_or w 5 0;
      bits = get_or w 6 0;
      valid = get_or w 7 0;
      mask = get_or w 8 0;
    }

-- the record, where the words are nine
unfoldable pub given_in : List ℕ → Option Format
unfolding pick
given_in w = pick (eqb (length w) 9) (Some (format_of w)) None

-- what is written of the format record in these words; 16 unless they are nine
unfoldable pub of_nine : List ℕ → (Format → Answer (List ℕ)) → Answer (List ℕ)
unfolding check
of_nine w k = check (eqb (length w) 9) BadRecord (k (format_of w))

-- ---- the exports: of what is to be written, an output and a word, the number, the output and the word after it

-- symphedra_write_fmt
abbrev pub WritesFmt : (words out w : List ℕ) (r : ℕ) (out' w' : List ℕ) → Type 0
WritesFmt words out w r out' w' = WritesOut (of_nine words format_out) out w r out' w'

-- symphedra_write_bext
abbrev pub WritesBext : (b : Whole) (out w : List ℕ) (r : ℕ) (out' w' : List ℕ) → Type 0
WritesBext b out w r out' w' = WritesOut (bext_out b) out w r out' w'

-- symphedra_write_chna
abbrev pub WritesChna : (channels tracks uids : ℕ) (entries out w : List ℕ) (r : ℕ) (out' w' : List ℕ) → Type 0
WritesChna channels tracks uids entries out w r out' w' = WritesOut (chna_from channels tracks uids entries) out w r out' w'
