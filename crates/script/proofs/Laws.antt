-- What the definitions come to in each case that the code tests.
-- Assumes nothing.
use Rattle.std.proofs.Common.{◌≡◌, ℕ, suc, ◌+◌, ◌-◌, ◌/◌, ◌%◌, ◌≤◌, ◌<◌, List, ◌++◌, length, set, take, drop, sym, ap, ◌∙◌, arith}
use Rattle.std.proofs.Math.ListN.{drop_of_length-le}
use Rattle.std.proofs.lemmas.List.{append-nil, length-take-le, length-drop}
use Rattle.std.proofs.lemmas.List.Edits.{sets-eq}
use borrow.Author.Tests.{le-leb}
use Rattle.le.specs.Number.{stored, bytes}
use Rattle.le.proofs.Laws.{bytes-length, part-set}
use Rattle.script.specs.Scripts.{put_at}

-- the loop that puts a number's bytes: the byte at i, and what is left
pub put_one : (width i v : ℕ) (f : List ℕ) → i < width
    → stored (width - (i + 1)) (i + 1) (v / 256) (set f i (v % 256)) ≡ stored (width - i) i v f
unfolding stored bytes
put_one width i v f h =
    let e : width - i ≡ suc (width - (i + 1)) = omega arith in
    let p : i + 1 ≡ suc i = omega arith in
    rw (e, p)

pub put-done : (width i at v : ℕ) (f : List ℕ) → width ≤ i → stored (width - i) at v f ≡ f
unfolding stored bytes
put-done width i at v f h = let e : width - i ≡ 0 = omega arith in rw e

-- the bytes over all of a run
all-stored : (n v : ℕ) (f : List ℕ) → length f ≡ n → stored n 0 v f ≡ bytes n v
unfolding stored
all-stored n v f h =
    let l = bytes-length n v in
    sets-eq (bytes n v) f 0 (omega (arith, l))
    ∙ ap (λ (t : List ℕ). bytes n v ++ t) (drop_of_length-le f (omega (arith, l)))
    ∙ append-nil (bytes n v)

-- the run at a place
pub part-length : (at width k : ℕ) (f : List ℕ) → k ≡ width → at + width ≤ length f → length (take k (drop at f)) ≡ width
part-length at width k f e h = length-take-le k (drop at f) (omega (arith, length-drop at f, e)) ∙ e

-- the bytes, once they stand there
pub put-part : (at width k v : ℕ) (f place : List ℕ) → k ≡ width → at + width ≤ length f → place ≡ stored width 0 v (take k (drop at f))
    → take at f ++ (place ++ drop k (drop at f)) ≡ put_at at width v f
unfolding put_at stored
put-part at width k v f place e h p =
    let l = bytes-length width v in
    part-set f place (bytes width v) at k (p ∙ all-stored width v _ (part-length at width k f e h)) (omega (arith, l, e)) (omega (arith, e))
    ∙ sym (simp (le-leb (at + width) (length f) h))
