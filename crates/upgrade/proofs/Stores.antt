-- The upgrade's own stores: what lies beside the fields that document 01 names is as it was, and each of those fields holds
-- what the document says. No two stores overlap, so each read finds its store.
-- Assumes nothing.
use mathlib.Core.Path.{◌≡◌, refl, sym, ◌∙◌, ap, subst}
use mathlib.Core.Bool.{Bool, true, false}
use mathlib.Core.Logic.{inl, inr}
use mathlib.Core.List.{List, [], ◌∷◌, ◌++◌}
use Prim.Native.Nat.{ℕ, ◌+◌, ◌-◌, ◌^◌, ◌≤◌, ◌<◌}
use native.Mathlib.Nat.{add-zero}
use native.Mathlib.Omega.{arith}
use lib.ListN.{length, drop, get_or}
use lib.Seq.{get_or-take, get_or-drop}
use lib.Dec.{lit<, lit≤}
use Rattle.le.specs.Number.{field, number}
use Rattle.le.specs.Choice.{pick}
use Rattle.chunk.specs.Names.{DS64, FACT, DATA}
use Rattle.chunk.specs.Fields.{ONES}
use Rattle.chunk.specs.Tables.{find}
use Rattle.chunk.proofs.Checks.{pick_true}
use Rattle.form.specs.Forms.{form_size}
use Rattle.wave.specs.Scans.{Scan}
use Rattle.upgrade.specs.declared.Target.{Target}
use Rattle.upgrade.specs.declared.Target.TheVariants.{Rf64, Bw64}
use Rattle.upgrade.specs.Upgrades.{Patch, patch, halves, has_fact, third_for, fact_patch, target_name, patches, patched}
use Rattle.upgrade.specs.Demand3.{Off, span, fact_span, changed, Beside, Holds}
use Rattle.upgrade.proofs.Patches.{Clear, none, one, past, ahead, clear-append, patched-append, patched-length, field-clear, number-clear, number-patched, number-halves}

-- ---- beside the named fields

fact-clear : (n at : ℕ) (t : Target) (a : Scan) → Beside n at (fact_span t a) → Clear n at (fact_patch t a)
unfolding fact_span fact_patch Beside span patch
fact-clear n at Bw64 a h = none
fact-clear n at Rf64 a h = go (has_fact a) h
  where
    go : (b : Bool) → Beside n at (pick b (span (find FACT a.rows).place 4 ∷ []) [])
        → Clear n at (pick b (patch (find FACT a.rows).place ONES ∷ []) [])
    go true k = one k.0 none
    go false k = none

-- a store inside a run that the bytes lie beside
inside : (n at m from k : ℕ) → from ≤ k → k + 4 ≤ from + m → Off n at m from → Off n at 4 k
inside n at m from k h g (inl e) = inl (omega arith)
inside n at m from k h g (inr e) = inr (omega arith)

beside-clear : (n at : ℕ) (t : Target) (a : Scan) (s : List ℕ) → Beside n at (changed t a) → Clear n at (patches t a s)
unfolding changed Beside span patches halves patch
beside-clear n at t a s h =
    one (block 20 (lit≤ tt) (lit≤ tt))
    (one (block 24 (lit≤ tt) (lit≤ tt))
    (one (block 28 (lit≤ tt) (lit≤ tt))
    (one (block 32 (lit≤ tt) (lit≤ tt))
    (one (block 36 (lit≤ tt) (lit≤ tt))
    (one (block 40 (lit≤ tt) (lit≤ tt))
    (one (block 44 (lit≤ tt) (lit≤ tt))
    (one h.1.1.0
    (clear-append (fact-clear n at t a h.1.1.1.1.1)
    (one h.1.1.1.1.0
    (one h.1.0
    (one h.0 none)))))))))))
  where
    block : (k : ℕ) → 20 ≤ k → k + 4 ≤ 48 → Off n at 4 k
    block k p q = inside n at 28 20 k p q h.1.1.1.0

byte_at : (i : ℕ) (l : List ℕ) → get_or (field 1 i l) 0 0 ≡ get_or l i 0
unfolding field
byte_at i l = get_or-take 1 (drop i l) 0 0 (lit< tt) ∙ get_or-drop i l 0 0 ∙ ap (λ (k : ℕ). get_or l k 0) (add-zero i)

module _ (t : Target) (a : Scan) (s : List ℕ) where
  pub field-beside : (n at : ℕ) → Beside n at (changed t a) → field n at (patched (patches t a s) s) ≡ field n at s
  field-beside n at h = field-clear s (beside-clear n at t a s h)

  pub number-beside : (n at : ℕ) → Beside n at (changed t a) → number n at (patched (patches t a s) s) ≡ number n at s
  number-beside n at h = number-clear s (beside-clear n at t a s h)

  -- byte by byte
  pub byte-beside : (i : ℕ) → Beside 1 i (changed t a) → get_or (patched (patches t a s) s) i 0 ≡ get_or s i 0
  byte-beside i h =
      sym (byte_at i (patched (patches t a s) s)) ∙ ap (λ (l : List ℕ). get_or l 0 0) (field-beside 1 i h) ∙ byte_at i s

-- ---- the named fields

-- where the fields lie, and that the numbers fit them
pub record Fits (t : Target) (s : List ℕ) (a : Scan) : Type 0 where
  pub data_from : 56 ≤ (find DATA a.rows).place
  pub data_to : (find DATA a.rows).place ≤ length s
  pub fact_from : has_fact a ≡ true → 56 ≤ (find FACT a.rows).place
  pub fact_to : has_fact a ≡ true → (find FACT a.rows).place + 4 ≤ length s
  pub fact_apart : has_fact a ≡ true → Off 4 (find FACT a.rows).place 4 ((find DATA a.rows).place - 4)
  pub form_fits : form_size a.head (number 4 4 s) < 256 ^ 8
  pub data_fits : (find DATA a.rows).size < 256 ^ 8
  pub third_fits : third_for t a s < 256 ^ 8

target_fits : (x : Target) → target_name x < 256 ^ 4
unfolding target_name
target_fits Rf64 = lit< tt
target_fits Bw64 = lit< tt

-- the stores in three parts: those up to ds64's name, fact's, and the last three
module _ (t : Target) (s : List ℕ) (a : Scan) where
  abbrev sizes : List Patch
  sizes = halves 20 (form_size a.head (number 4 4 s)) ++ halves 28 (find DATA a.rows).size ++ halves 36 (third_for t a s)

  abbrev early : List Patch
  early = sizes ++ (patch 44 0 ∷ patch 12 DS64 ∷ [])

  abbrev late : List Patch
  late = patch ((find DATA a.rows).place - 4) ONES ∷ patch 4 ONES ∷ patch 0 (target_name t) ∷ []

  abbrev middle : List ℕ
  middle = patched (fact_patch t a) (patched early s)

  parts : patched (patches t a s) s ≡ patched late middle
  unfolding patches
  parts = patched-append (early ++ fact_patch t a) late s ∙ ap (patched late) (patched-append early (fact_patch t a) s)

  middle-length : length middle ≡ length s
  middle-length = patched-length (fact_patch t a) (patched early s) ∙ patched-length early s

  module _ (f : Fits t s a) where
    room : 56 ≤ length s
    room = omega (arith, f.data_from, f.data_to)

    -- fact's store lies past byte 56
    fact-low : (n at : ℕ) → at + n ≤ 56 → Clear n at (fact_patch t a)
    unfolding fact_patch patch
    fact-low n at h = go t
      where
        pass : (b : Bool) → has_fact a ≡ b → Clear n at (pick b (patch (find FACT a.rows).place ONES ∷ []) [])
        pass true e = past _ (omega (arith, f.fact_from e)) none
        pass false e = none

        go : (t : Target) → Clear n at (fact_patch t a)
        go Rf64 = pass (has_fact a) refl
        go Bw64 = none

    late-low : (n at : ℕ) → 8 ≤ at → at + n ≤ 48 → Clear n at late
    unfolding patch
    late-low n at h k =
        past ((find DATA a.rows).place - 4) (omega (arith, f.data_from)) (ahead 4 (omega arith) (ahead 0 (omega arith) none))

    -- the fields of the first 48 bytes past byte 8 are those that the early stores leave
    low : (n at : ℕ) → 8 ≤ at → at + n ≤ 48 → number n at (patched (patches t a s) s) ≡ number n at (patched early s)
    low n at h k =
        ap (number n at) parts
        ∙ number-clear middle (late-low n at h k)
        ∙ number-clear (patched early s) (fact-low n at (omega arith))

    low-third : number 8 36 (patched early s) ≡ third_for t a s
    unfolding halves patch
    low-third =
        number-halves (halves 20 (form_size a.head (number 4 4 s)) ++ halves 28 (find DATA a.rows).size) 36 (third_for t a s)
        (patch 44 0 ∷ patch 12 DS64 ∷ []) s f.third_fits (omega (arith, room))
        (past 44 (lit≤ tt) (ahead 12 (lit≤ tt) none))

    low-data : number 8 28 (patched early s) ≡ (find DATA a.rows).size
    unfolding halves patch
    low-data =
        number-halves (halves 20 (form_size a.head (number 4 4 s))) 28 (find DATA a.rows).size
        (halves 36 (third_for t a s) ++ (patch 44 0 ∷ patch 12 DS64 ∷ [])) s f.data_fits (omega (arith, room))
        (past 36 (lit≤ tt) (past 40 (lit≤ tt) (past 44 (lit≤ tt) (ahead 12 (lit≤ tt) none))))

    low-form : number 8 20 (patched early s) ≡ form_size a.head (number 4 4 s)
    unfolding halves patch
    low-form =
        number-halves [] 20 (form_size a.head (number 4 4 s))
        (halves 28 (find DATA a.rows).size ++ (halves 36 (third_for t a s) ++ (patch 44 0 ∷ patch 12 DS64 ∷ []))) s
        f.form_fits (omega (arith, room))
        (past 28 (lit≤ tt) (past 32 (lit≤ tt) (past 36 (lit≤ tt) (past 40 (lit≤ tt) (past 44 (lit≤ tt) (ahead 12 (lit≤ tt) none))))))

    low-entries : number 4 44 (patched early s) ≡ 0
    unfolding patch
    low-entries = number-patched sizes 44 0 (patch 12 DS64 ∷ []) s (lit< tt) (omega (arith, room)) (ahead 12 (lit≤ tt) none)

    low-name : number 4 12 (patched early s) ≡ DS64
    unfolding halves patch
    low-name = number-patched (sizes ++ (patch 44 0 ∷ [])) 12 DS64 [] s (lit< tt) (omega (arith, room)) none

    late-data : number 4 ((find DATA a.rows).place - 4) (patched late middle) ≡ ONES
    unfolding patch
    late-data =
        number-patched [] ((find DATA a.rows).place - 4) ONES (patch 4 ONES ∷ patch 0 (target_name t) ∷ []) middle (lit< tt)
        (omega (arith, f.data_from, f.data_to, middle-length))
        (ahead 4 (omega (arith, f.data_from)) (ahead 0 (omega (arith, f.data_from)) none))

    late-field : number 4 4 (patched late middle) ≡ ONES
    unfolding patch
    late-field =
        number-patched (patch ((find DATA a.rows).place - 4) ONES ∷ []) 4 ONES (patch 0 (target_name t) ∷ []) middle (lit< tt)
        (omega (arith, room, middle-length)) (ahead 0 (lit≤ tt) none)

    late-name : number 4 0 (patched late middle) ≡ target_name t
    unfolding patch
    late-name =
        number-patched (patch ((find DATA a.rows).place - 4) ONES ∷ patch 4 ONES ∷ []) 0 (target_name t) [] middle (target_fits t)
        (omega (arith, room, middle-length)) none

late-fact : (s : List ℕ) (a : Scan) → Fits Rf64 s a → has_fact a ≡ true
    → number 4 (find FACT a.rows).place (patched (patches Rf64 a s) s) ≡ ONES
unfolding fact_patch patch
late-fact s a f e =
    let at = (find FACT a.rows).place in
    ap (number 4 at) (parts Rf64 s a)
    ∙ number-clear (middle Rf64 s a) (clear (f.fact_apart e))
    ∙ ap (λ (ps : List Patch). number 4 at (patched ps (patched (early Rf64 s a) s))) (pick_true (has_fact a) _ _ e)
    ∙ number-patched [] at ONES [] (patched (early Rf64 s a) s) (lit< tt) (omega (arith, f.fact_to e, patched-length (early Rf64 s a) s)) none
  where
    clear : Off 4 (find FACT a.rows).place 4 ((find DATA a.rows).place - 4)
        → Clear 4 (find FACT a.rows).place (late Rf64 s a)
    clear h = one h (ahead 4 (omega (arith, f.fact_from e)) (ahead 0 (omega (arith, f.fact_from e)) none))

pub holds : (t : Target) (s : List ℕ) (a : Scan) → form_size a.head (number 4 4 s) ≡ length s - 8 → Fits t s a
    → Holds t s a (patched (patches t a s) s)
holds t s a whole f =
    record {
      form_name = ap (number 4 0) (parts t s a) ∙ late-name t s a f;
      form_field = ap (number 4 4) (parts t s a) ∙ late-field t s a f;
      name = low t s a f 4 12 (lit≤ tt) (lit≤ tt) ∙ low-name t s a f;
      form_size = low t s a f 8 20 (lit≤ tt) (lit≤ tt) ∙ low-form t s a f ∙ whole;
      data_size = low t s a f 8 28 (lit≤ tt) (lit≤ tt) ∙ low-data t s a f;
      third = low t s a f 8 36 (lit≤ tt) (lit≤ tt) ∙ low-third t s a f;
      entries = low t s a f 4 44 (lit≤ tt) (lit≤ tt) ∙ low-entries t s a f;
      data_field = ap (number 4 ((find DATA a.rows).place - 4)) (parts t s a) ∙ late-data t s a f;
      fact = λ p. subst (λ (x : Target). has_fact a ≡ true → number 4 (find FACT a.rows).place (patched (patches x a s) s) ≡ ONES) (sym p) (late-fact s a (subst (λ (x : Target). Fits x s a) p f));
    }
