-- Stores one after the other: a field that lies beside all of them is as it was, and one that no later store touches holds
-- what was stored. By induction on the list of stores.
-- Assumes nothing.
use mathlib.Core.Path.{◌≡◌, refl, sym, ◌∙◌, ap}
use mathlib.Core.Logic.{inl, inr}
use mathlib.Core.List.{List, [], ◌∷◌, ◌++◌}
use Prim.Native.Nat.{ℕ, ◌+◌, ◌^◌, ◌≤◌, ◌<◌}
use native.Mathlib.Omega.{arith}
use lib.ListN.{length}
use Rattle.le.specs.Number.{field, number, stored}
use Rattle.le.proofs.Laws.{stored-length, stored-split, number-stored, field_stored, number-frame}
use Rattle.upgrade.specs.Demand3.{Off}
use Rattle.upgrade.specs.Upgrades.{Patch, patch, halves, patched}

-- the n bytes at a place lie beside every one of these stores
pub data Clear (n at : ℕ) : List Patch → Type 0 where
  none : Clear n at []
  one : {p : Patch} {ps : List Patch} → Off n at 4 p.place → Clear n at ps → Clear n at (p ∷ ps)

-- a store at k past the bytes, or ahead of them
pub past : {n at : ℕ} (k : ℕ) {v : ℕ} {ps : List Patch}
    → at + n ≤ k → Clear n at ps → Clear n at (record { place = k; value = v } ∷ ps)
past k h c = one (inl h) c

pub ahead : {n at : ℕ} (k : ℕ) {v : ℕ} {ps : List Patch}
    → k + 4 ≤ at → Clear n at ps → Clear n at (record { place = k; value = v } ∷ ps)
ahead k h c = one (inr h) c

pub clear-append : {n at : ℕ} {ps qs : List Patch} → Clear n at ps → Clear n at qs → Clear n at (ps ++ qs)
clear-append none d = d
clear-append (one h c) d = one h (clear-append c d)

pub patched-append : (ps qs : List Patch) (s : List ℕ) → patched (ps ++ qs) s ≡ patched qs (patched ps s)
unfolding patched
patched-append [] qs s = refl
patched-append (p ∷ ps) qs s = patched-append ps qs (stored 4 p.place p.value s)

pub patched-length : (ps : List Patch) (s : List ℕ) → length (patched ps s) ≡ length s
unfolding patched
patched-length [] s = refl
patched-length (p ∷ ps) s = patched-length ps (stored 4 p.place p.value s) ∙ stored-length 4 p.place p.value s

pub field-clear : {n at : ℕ} {ps : List Patch} (s : List ℕ) → Clear n at ps → field n at (patched ps s) ≡ field n at s
unfolding patched
field-clear s none = refl
field-clear {n} {at} s (one {p = p} h c) =
    field-clear (stored 4 p.place p.value s) c ∙ field_stored n at 4 p.place p.value s h

pub number-clear : {n at : ℕ} {ps : List Patch} (s : List ℕ) → Clear n at ps → number n at (patched ps s) ≡ number n at s
number-clear {n} {at} {ps} s c = number-frame n at (patched ps s) s (field-clear s c)

-- what is stored is read back where no later store touches it
pub number-patched : (before : List Patch) (at v : ℕ) (later : List Patch) (s : List ℕ) → v < 256 ^ 4 → at + 4 ≤ length s
    → Clear 4 at later → number 4 at (patched (before ++ patch at v ∷ later) s) ≡ v
unfolding patched patch
number-patched before at v later s h k c =
    ap (number 4 at) (patched-append before (patch at v ∷ later) s)
    ∙ number-clear (stored 4 at v (patched before s)) c
    ∙ number-stored 4 at v (patched before s) h (omega (arith, patched-length before s))

-- the two halves of a 64-bit number are its 8 bytes
pub halves-stored : (at v : ℕ) (s : List ℕ) → patched (halves at v) s ≡ stored 8 at v s
unfolding patched patch halves
halves-stored at v s = sym (stored-split 4 4 at v s)

pub number-halves : (before : List Patch) (at v : ℕ) (later : List Patch) (s : List ℕ) → v < 256 ^ 8 → at + 8 ≤ length s
    → Clear 8 at later → number 8 at (patched (before ++ (halves at v ++ later)) s) ≡ v
number-halves before at v later s h k c =
    ap (number 8 at)
    (patched-append before (halves at v ++ later) s
    ∙ patched-append (halves at v) later (patched before s)
    ∙ ap (patched later) (halves-stored at v (patched before s)))
    ∙ number-clear (stored 8 at v (patched before s)) c
    ∙ number-stored 8 at v (patched before s) h (omega (arith, patched-length before s))
