-- Rows stored one after the other into words, and the number of rows last, make the table of them.
-- Assumes nothing.
use mathlib.Core.Path.{◌≡◌, refl, sym, ap, ◌∙◌}
use mathlib.Core.List.{List, [], ◌∷◌, ◌++◌, Memᴰ}
use Prim.Native.Nat.{ℕ, zero, suc, ◌+◌, ◌*◌, ◌≤◌, ◌<◌}
use native.Mathlib.Nat.{zero-add, add-zero}
use native.Mathlib.Omega.{arith}
use lib.ListN.{length, set, drop, get_or, length-set}
use lib.Seq.{sets, sets-eq, length-sets, get_or-set_same, get_or-set_other, get_or-append-add}
use Rattle.le.proofs.Laws.{sets-append}
use Rattle.chunk.specs.declared.Entry.{Entry}
use Rattle.chunk.specs.Sources.{source_number, source_of}
use Rattle.chunk.specs.Tables.{row_words, row_in, all_words, tabled, set_row}
use Rattle.chunk.proofs.Sources.{source-back}

-- these rows stored from row i on, and then the number of all in word 0
unfoldable pub filled : List ℕ → ℕ → List Entry → List ℕ
filled w i [] = set w 0 i
filled w i (e ∷ es) = filled (set_row w i e) (i + 1) es

pub all-length : (rows : List Entry) → length (all_words rows) ≡ 4 * length rows
unfolding all_words row_words
all-length [] = refl
all-length (e ∷ es) = omega (arith, all-length es)

pub row-length : (w : List ℕ) (i : ℕ) (e : Entry) → length (set_row w i e) ≡ length w
unfolding set_row
row-length w i e = length-sets w (1 + 4 * i) (row_words e)

filled-sets : (w : List ℕ) (i : ℕ) (rows : List Entry) → filled w i rows ≡ set (sets w (1 + 4 * i) (all_words rows)) 0 (i + length rows)
unfolding filled all_words set_row row_words
filled-sets w i [] = rw add-zero
filled-sets w i (e ∷ es) =
    filled-sets (sets w (1 + 4 * i) (row_words e)) (i + 1) es
    ∙ ap (λ (l : List ℕ). set l 0 (i + 1 + length es))
    (ap (λ (k : ℕ). sets (sets w (1 + 4 * i) (row_words e)) k (all_words es)) (let p : 1 + 4 * (i + 1) ≡ 1 + 4 * i + 4 = omega arith in p)
    ∙ sym (sets-append (row_words e) (all_words es) w (1 + 4 * i)))
    ∙ ap (λ (k : ℕ). set (sets w (1 + 4 * i) (row_words e ++ all_words es)) 0 k) (let p : i + 1 + length es ≡ i + suc (length es) = omega arith in p)

pub filled-tabled : (w : List ℕ) (rows : List Entry) → 1 + 4 * length rows ≤ length w → filled w 0 rows ≡ tabled rows w
unfolding tabled
filled-tabled [] rows h = absurd (omega arith)
filled-tabled (x ∷ w) rows h =
    filled-sets (x ∷ w) 0 rows
    ∙ ap (λ (k : ℕ). set (sets (x ∷ w) k (all_words rows)) 0 (0 + length rows)) (let p : 1 + 4 * 0 ≡ suc 0 = omega arith in p)
    ∙ ap (λ (l : List ℕ). set l 0 (0 + length rows)) (under 0 x (all_words rows) w)
    ∙ ap (λ (k : ℕ). k ∷ sets w 0 (all_words rows)) (zero-add (length rows))
    ∙ ap (λ (l : List ℕ). length rows ∷ l)
    (sets-eq (all_words rows) w 0 (omega (arith, all-length rows))
    ∙ ap (λ (k : ℕ). all_words rows ++ drop k w) (zero-add (length (all_words rows)) ∙ all-length rows)
    ∙ ap (λ (l : List ℕ). all_words rows ++ l) (behind (4 * length rows)))
  where
    under : (i x : ℕ) (vs w : List ℕ) → sets (x ∷ w) (suc i) vs ≡ x ∷ sets w i vs
    under i x [] w = refl
    under i x (v ∷ vs) w = under (suc i) x vs (set w i v)

    behind : (n : ℕ) → drop n w ≡ drop (1 + n) (x ∷ w)
    behind n = ap (λ (k : ℕ). drop k (x ∷ w)) (let p : suc n ≡ 1 + n = omega arith in p)

-- ---- rows read back

-- past any words stand the rows that stand without them
row-past : (xs l : List ℕ) (at : ℕ) → row_in (length xs + at) (xs ++ l) ≡ row_in at l
unfolding row_in
row-past xs l at =
    λ i. record {
      name = get_or-append-add xs l at 0 i;
      place = further 1 i;
      size = further 2 i;
      source = source_of (further 3 i);
    }
  where
    further : (k : ℕ) → get_or (xs ++ l) (length xs + at + k) 0 ≡ get_or l (at + k) 0
    further k =
        ap (λ (n : ℕ). get_or (xs ++ l) n 0) (let e : length xs + at + k ≡ length xs + (at + k) = omega arith in e)
        ∙ get_or-append-add xs l (at + k) 0

rows_row : (rows : List Entry) (more : List ℕ) (i : ℕ) → i < length rows
    → (e : Entry) × Memᴰ e rows × (row_in (4 * i) (all_words rows ++ more) ≡ e)
unfolding all_words row_words row_in
rows_row [] more i h = absurd (omega arith)
rows_row (x ∷ xs) more zero h = (
  x,
  Memᴰ.head refl,
  λ i. record { name = x.name; place = x.place; size = x.size; source = source-back x.source i },
)
rows_row (x ∷ xs) more (suc i) h =
    let r = rows_row xs more i (omega arith) in
    let e : 4 * suc i ≡ 4 + 4 * i = omega arith in (
      r.0,
      Memᴰ.tail r.1,
      ap (λ (k : ℕ). row_in k (all_words (x ∷ xs) ++ more)) e ∙ row-past (row_words x) (all_words xs ++ more) (4 * i) ∙ r.2,
    )

-- words that hold a table say how many rows it has, and the i-th is one of them
pub table-row : (rows : List Entry) (w v : List ℕ) → v ≡ tabled rows w → (i : ℕ) → i < get_or v 0 0
    → (e : Entry) × Memᴰ e rows × (row_in (1 + 4 * i) v ≡ e)
unfolding tabled
table-row rows w v is i h =
    let more : List ℕ = drop (1 + 4 * length rows) w in
    let r = rows_row rows more i (omega (arith, h, ap (λ (u : List ℕ). get_or u 0 0) is)) in
    (r.0, r.1, ap (row_in (1 + 4 * i)) is ∙ row-past (length rows ∷ []) (all_words rows ++ more) (4 * i) ∙ r.2)

-- a row that was stored is read back
pub row_back : (w : List ℕ) (at : ℕ) (e : Entry) → at + 4 ≤ length w → row_in at (sets w at (row_words e)) ≡ e
unfolding row_in row_words
row_back w at e h =
    let from = source_number e.source in
    let w1 = set w at e.name in
    let w2 = set w1 (suc at) e.place in
    let w3 = set w2 (suc (suc at)) e.size in
    let one : at + 1 ≡ suc at = omega arith in
    let two : at + 2 ≡ suc (suc at) = omega arith in
    let three : at + 3 ≡ suc (suc (suc at)) = omega arith in
    rw (one, two, three)
    (λ i. record {
      name =
          (get_or-set_other w3 (suc (suc (suc at))) at from 0 (omega arith)
          ∙ get_or-set_other w2 (suc (suc at)) at e.size 0 (omega arith)
          ∙ get_or-set_other w1 (suc at) at e.place 0 (omega arith)
          ∙ get_or-set_same w at e.name 0 (omega arith)) i;
      place =
          (get_or-set_other w3 (suc (suc (suc at))) (suc at) from 0 (omega arith)
          ∙ get_or-set_other w2 (suc (suc at)) (suc at) e.size 0 (omega arith)
          ∙ get_or-set_same w1 (suc at) e.place 0 (simp length-set (omega arith))) i;
      size =
          (get_or-set_other w3 (suc (suc (suc at))) (suc (suc at)) from 0 (omega arith)
          ∙ get_or-set_same w2 (suc (suc at)) e.size 0 (simp length-set (omega arith))) i;
      source =
          (ap source_of (get_or-set_same w3 (suc (suc (suc at))) from 0 (simp length-set (omega arith)))
          ∙ source-back e.source) i;
    })
