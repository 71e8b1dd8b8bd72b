-- A table of chunks: "name, payload place and true size of each chunk, in file order", and (document 02) where the size
-- came from. As words: the number of chunks, then four words for each.
use Rattle.std.specs.Prelude.{ℕ, suc, ◌+◌, ◌*◌, Bool, true, false, List, [], ◌∷◌, ◌++◌, length, drop, replicate, get_or, eqb}
use Rattle.std.proofs.lemmas.List.Edits.{sets}
use Rattle.le.specs.Choice.{pick}
use Rattle.chunk.specs.declared.Entry.{Entry}
use Rattle.chunk.specs.declared.Source.TheVariants.{Own}
use Rattle.chunk.specs.declared.Table.{Table}
use Rattle.chunk.specs.Sources.{source_number, source_of}

-- The most chunks of a file ("The limits of 64 chunks, .."), and the words of a full table: Table::LIMIT and Table::WORDS
-- of the code.
abbrev pub LIMIT : ℕ
LIMIT = 64

abbrev pub WORDS : ℕ
WORDS = 1 + 4 * LIMIT

-- the words of a chunk
unfoldable pub row_words : Entry → List ℕ
row_words e = e.name ∷ e.place ∷ e.size ∷ source_number e.source ∷ []

unfoldable pub all_words : List Entry → List ℕ
all_words [] = []
all_words (e ∷ es) = row_words e ++ all_words es

-- the words of a table: the number of its chunks, and the words of each
unfoldable pub table_words : List Entry → List ℕ
table_words rows = length rows ∷ all_words rows

-- words that hold the table of these chunks; those past the last chunk as they were
unfoldable pub tabled : List Entry → List ℕ → List ℕ
tabled rows w = length rows ∷ all_words rows ++ drop (1 + 4 * length rows) w

-- whether words begin with these: all of them are there, and what follows isn't looked at
unfoldable pub begins : List ℕ → List ℕ → Bool
unfolding pick
begins [] w = true
begins (x ∷ xs) [] = false
begins (x ∷ xs) (y ∷ w) = pick (eqb y x) (begins xs w) false

-- the table of these chunks, with zeros past the last
unfoldable pub table_of : List Entry → Table
table_of rows = record { words = tabled rows (replicate WORDS 0) }

-- the chunk in the row that starts at a word
unfoldable pub row_in : ℕ → List ℕ → Entry
row_in at w =
    record {
      name = get_or w at 0;
      place = get_or w (at + 1) 0;
      size = get_or w (at + 2) 0;
      source = source_of (get_or w (at + 3) 0);
    }

-- words with a chunk stored as row i
unfoldable pub set_row : List ℕ → ℕ → Entry → List ℕ
set_row w i e = sets w (1 + 4 * i) (row_words e)

-- how many chunks have a name
unfoldable pub count : ℕ → List Entry → ℕ
unfolding pick
count name [] = 0
count name (e ∷ es) = pick (eqb e.name name) (suc (count name es)) (count name es)

-- the first chunk of a name, or an empty entry
unfoldable pub find : ℕ → List Entry → Entry
unfolding pick
find name [] = record { name = 0; place = 0; size = 0; source = Own }
find name (e ∷ es) = pick (eqb e.name name) e (find name es)
