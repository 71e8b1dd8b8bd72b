-- The laws of storing at a place: a run after a run is one run, and so the stores of a chunk are one store of its bytes.
-- Assumes nothing.
use mathlib.Core.Path.{◌≡◌, refl, sym, ap, ap₂, ◌∙◌, subst}
use mathlib.Core.List.{List, [], ◌∷◌, ◌++◌, append_assoc, append-nil}
use Prim.Native.Nat.{ℕ, ◌+◌, ◌-◌, ◌%◌, ◌≤◌}
use native.Mathlib.Omega.{arith}
use lib.ListN.{length, take, drop, replicate, length-append, length-take, length-drop, drop_of_length-le}
use lib.Seq.{sets, sets-eq, drop-drop, length-sets}
use Rattle.le.specs.Number.{bytes}
use Rattle.le.proofs.Laws.{bytes-length, sets-append}
use Rattle.chunk.specs.Names.{WAVE}
use Rattle.chunk.specs.Refusals.{Ok}
use Rattle.chunk.specs.Writes.{fitting, output_of}
use Rattle.chunk.proofs.Outputs.{room}
use Rattle.file_parts.specs.declared.Output.{Output}
use Rattle.file_parts.specs.Parts.{pad_of, chunk_with, chunk_bytes}
use Rattle.file_parts.specs.Code.{Puts}

-- how long a number is, and two runs
pub ruleset sizes = (bytes-length, length-append)

-- ---- runs of bytes

pub puts-nothing : (bs : List ℕ) (o : Output) → bs ≡ [] → Puts bs o o
puts-nothing bs o e =
    record {
      leaves = sym (ap (sets o.bytes.now o.at) e);
      next = omega (arith, ap length e);
      same_length = refl;
      same_reference = refl;
    }

pub puts-as : {o u : Output} (bs cs : List ℕ) → bs ≡ cs → Puts cs o u → Puts bs o u
puts-as {o} {u} bs cs e w = subst (λ (l : List ℕ). Puts l o u) (sym e) w

-- a run after a run
pub puts_then : {xs ys : List ℕ} {o u v : Output} → Puts xs o u → Puts ys u v → Puts (xs ++ ys) o v
puts_then {xs} {ys} {o} {u} {v} a b =
    record {
      leaves =
          b.leaves
          ∙ ap₂ (λ (l : List ℕ) (k : ℕ). sets l k ys) a.leaves a.next
          ∙ sym (sets-append xs ys o.bytes.now o.at);
      next = omega (arith, a.next, b.next, length-append xs ys);
      same_length = b.same_length ∙ a.same_length;
      same_reference = b.same_reference ∙ a.same_reference;
    }

-- an output in which a run was set
pub puts-set : (bs : List ℕ) (o u : Output) → u.bytes.now ≡ sets o.bytes.now o.at bs → u.at ≡ o.at + length bs
    → u.bytes.ghost_name ≡ o.bytes.ghost_name → Puts bs o u
puts-set bs o u is next same =
    record {
      leaves = is;
      next = next;
      same_length = ap length is ∙ length-sets o.bytes.now o.at bs;
      same_reference = same;
    }

-- ---- a part of an output, which is as long as what is put there

module _ (out z bs : List ℕ) (at r : ℕ) (e : r ≡ at + length bs) (h : r ≤ length out) where
  abbrev part : List ℕ
  part = take (r - at) (drop at out)

  part_length : length part ≡ length bs
  part_length = simp (length-take, length-drop) (omega arith)

  -- copied there
  pub part-put : z ≡ bs → take at out ++ (z ++ drop (r - at) (drop at out)) ≡ sets out at bs
  part-put w =
      let k : at + (r - at) ≡ at + length bs = omega arith in
      ap₂ (λ (a b : List ℕ). take at out ++ (a ++ b)) w (drop-drop (r - at) at out ∙ ap (λ (n : ℕ). drop n out) k)
      ∙ sym (append_assoc (take at out) bs (drop (at + length bs) out))
      ∙ sym (sets-eq bs out at (omega arith))

  -- or stored, where there is room for them
  pub part-stored : z ≡ output_of part (fitting part (Ok bs)) → take at out ++ (z ++ drop (r - at) (drop at out)) ≡ sets out at bs
  unfolding output_of
  part-stored w =
      part-put
      (w
      ∙ ap (output_of part) (room bs part (omega (arith, part_length)))
      ∙ ap (λ (l : List ℕ). bs ++ l) (drop_of_length-le part {i = length bs} (omega (arith, part_length)))
      ∙ append-nil bs)

-- ---- a chunk

pub header-length : (name own : ℕ) → length (bytes 4 name ++ bytes 4 own) ≡ 8
header-length name own = omega (arith, length-append (bytes 4 name) (bytes 4 own), bytes-length 4 name, bytes-length 4 own)

pub pad-even : (size : ℕ) → (size % 2 ≡ 1 → ⊥) → pad_of size ≡ []
unfolding pad_of
pad-even size h = let e : size % 2 ≡ 0 = omega arith in ap (λ (k : ℕ). replicate k 0) e

pub pad-odd : (size : ℕ) → size % 2 ≡ 1 → pad_of size ≡ 0 ∷ []
unfolding pad_of
pad-odd size e = ap (λ (k : ℕ). replicate k 0) e

-- header, payload and pad, each where the one before it ends, are a chunk
pub chunk-puts : (name own : ℕ) {p : List ℕ} {o o₁ o₂ o₃ : Output} → Puts (bytes 4 name ++ bytes 4 own) o o₁ → Puts p o₁ o₂
    → Puts (pad_of (length p)) o₂ o₃ → Puts (chunk_with name own p) o o₃
unfolding chunk_with
chunk-puts name own {p} h k w =
    puts-as (bytes 4 name ++ (bytes 4 own ++ (p ++ pad_of (length p)))) (bytes 4 name ++ bytes 4 own ++ (p ++ pad_of (length p)))
    (sym (append_assoc (bytes 4 name) (bytes 4 own) (p ++ pad_of (length p)))) (puts_then h (puts_then k w))

-- ---- the opening

pub first_lem : (name own first a b d : ℕ)
    → bytes 4 name ++ (bytes 4 own ++ (bytes 4 WAVE ++ chunk_bytes first (bytes 8 a ++ (bytes 8 b ++ (bytes 8 d ++ bytes 4 0)))))
    ≡ bytes 4 name ++ (bytes 4 own ++ (bytes 4 WAVE ++ (bytes 4 first ++ (bytes 4 28 ++ (bytes 8 a ++ (bytes 8 b ++ (bytes 8 d ++ bytes 4 0)))))))
unfolding chunk_bytes chunk_with pad_of bytes
first_lem name own first a b d = refl
