-- `chunk::is_row` meets its contract: the four words are compared one after the other.
use Rattle.std.proofs.Common.{arith, ◌≡◌, ℕ, List, false, ◌+◌, ◌≤◌, length, drop, get_or, eqb}
use Rattle.le.specs.Choice.{pick}
use Rattle.chunk.specs.declared.Entry.{Entry}
use Rattle.chunk.specs.Tables.{begins, row_words}
use Rattle.chunk.proofs.Begins.{row-begins}
use Rattle.chunk.proofs.is_row.Goals as goal

row-tests : (e : Entry) (r w : List ℕ) (at : ℕ) → r ≡ row_words e → at + 4 ≤ length w
    → begins (row_words e) (drop at w)
    ≡ pick (eqb (get_or w at 0) (get_or r 0 0))
    (pick (eqb (get_or w (at + 1) 0) (get_or r 1 0))
    (pick (eqb (get_or w (at + 2) 0) (get_or r 2 0)) (eqb (get_or w (at + 3) 0) (get_or r 3 0)) false)
    false)
    false
unfolding row_words
row-tests e r w at is h = rw is (row-begins e w at h)

pub returns-then-words-at-3 : goal.returns-then-words-at-3
unfolding pick
returns-then-words-at-3 c = grind (arith, row-tests c.args.e _ c.args.words.now c.args.at c.words-row.ensures c.requires)

pub returns-else-words-at-3 : goal.returns-else-words-at-3
unfolding pick
returns-else-words-at-3 c = grind (arith, row-tests c.args.e _ c.args.words.now c.args.at c.words-row.ensures c.requires)
