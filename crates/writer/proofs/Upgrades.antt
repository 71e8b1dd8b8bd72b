-- The upgrade of a written RIFF file: its stores change the opening and data's size field alone, and so make of it what is
-- written for the target from the same input.
-- Assumes nothing.
use mathlib.Core.Path.{◌≡◌, refl, sym, ap, ap₂, ◌∙◌}
use mathlib.Core.Bool.{Bool, true, false, not, ◌||◌, ◌&&◌}
use mathlib.Core.List.{List, [], ◌∷◌, ◌++◌, append_assoc}
use Prim.Native.Nat.{ℕ, suc, ◌+◌, ◌-◌, ◌/◌, ◌^◌, ◌≤◌, ◌<◌}
use native.Mathlib.Nat.{zero-add, suc-add, add-suc}
use native.Mathlib.Omega.{arith}
use lib.ListN.{length, set, length-append, length-set}
use lib.Seq.{sets, set-append_left}
use lib.Dec.{eqb, leb}
use borrow.Author.Tests.{le-leb}
use Rattle.le.specs.Number.{bytes, number, stored}
use Rattle.le.proofs.Laws.{bytes-length, stored-length, stored-split}
use Rattle.chunk.specs.declared.Entry.{Entry}
use Rattle.chunk.specs.Names.{FMT, DATA, BEXT, CHNA, DS64}
use Rattle.chunk.specs.Fields.{ONES}
use Rattle.chunk.specs.Refusals.{Ok}
use Rattle.chunk.specs.Tables.{find}
use Rattle.chunk.proofs.Checks.{check-true, pick-false}
use Rattle.form.specs.declared.Form.{Form}
use Rattle.form.specs.declared.Form.TheVariants.{Riff}
use Rattle.form.specs.Forms.{name_of, is_wide, form_size}
use Rattle.fmt.specs.declared.Format.{Format}
use Rattle.fmt.specs.Writing.{format_bytes}
use Rattle.chna.specs.Records.{pads_zeroed}
use Rattle.wave.specs.Scans.{Scan}
use Rattle.upgrade.specs.declared.Target.{Target}
use Rattle.upgrade.specs.declared.Target.TheVariants as target
use Rattle.upgrade.specs.Upgrades.{Patch, patch, halves, has_fact, frames, third_for, fact_patch, target_name, patches, patched, reserved, upgraded}
use Rattle.upgrade.specs.Demand3.{target_form}
use Rattle.upgrade.proofs.Thirds.{third-frames, third_zero}
use Rattle.upgrade.proofs.Outcomes.{upgrade-given}
use Rattle.file_parts.specs.Parts.{pad_of, chunk_with, chunk_bytes, optional, first_chunk, own_field, opening_bytes, optional_size}
use Rattle.file.specs.Files.{body_bytes, form_size_for, file_bytes, input_good, sizes_good, file_out}
use Rattle.writer.specs.WayBack.{entry, data_source, first_name, table_for}
use Rattle.chna.proofs.Pads.{zeroed-length}
use Rattle.file_parts.proofs.Lengths.{opening-length, optional-length}
use Rattle.file.proofs.Sizes.{fmt-length, form-size}
use Rattle.writer.proofs.Openings.{third_of}
use Rattle.writer.proofs.Back as back
use Rattle.file.proofs.Outs.{Fine}

-- ---- a store in the first of two runs, or in the second

sets-front : (vs xs ys : List ℕ) (at : ℕ) → at + length vs ≤ length xs → sets (xs ++ ys) at vs ≡ sets xs at vs ++ ys
sets-front [] xs ys at h = refl
sets-front (v ∷ vs) xs ys at h =
    ap (λ (l : List ℕ). sets l (suc at) vs) (set-append_left xs ys at v (omega arith))
    ∙ sets-front vs (set xs at v) ys (suc at) (omega (arith, length-set xs at v))

set-behind : (xs ys : List ℕ) (n v : ℕ) → set (xs ++ ys) (length xs + n) v ≡ xs ++ set ys n v
set-behind [] ys n v = ap (λ (k : ℕ). set ys k v) (zero-add n)
set-behind (x ∷ xs) ys n v =
    ap (λ (k : ℕ). set (x ∷ (xs ++ ys)) k v) (suc-add (length xs) n) ∙ ap (λ (l : List ℕ). x ∷ l) (set-behind xs ys n v)

sets_behind : (vs xs ys : List ℕ) (n : ℕ) → sets (xs ++ ys) (length xs + n) vs ≡ xs ++ sets ys n vs
sets_behind [] xs ys n = refl
sets_behind (v ∷ vs) xs ys n =
    ap₂ (λ (l : List ℕ) (k : ℕ). sets l k vs) (set-behind xs ys n v) (sym (add-suc (length xs) n))
    ∙ sets_behind vs xs (set ys n v) (suc n)

stored-front : (n at v : ℕ) (xs ys : List ℕ) → at + n ≤ length xs → stored n at v (xs ++ ys) ≡ stored n at v xs ++ ys
unfolding stored
stored-front n at v xs ys h = sets-front (bytes n v) xs ys at (omega (arith, bytes-length n v))

stored-behind : (n at k v : ℕ) (xs ys : List ℕ) → at ≡ length xs + k → stored n at v (xs ++ ys) ≡ xs ++ stored n k v ys
unfolding stored
stored-behind n at k v xs ys e = ap (λ (m : ℕ). sets (xs ++ ys) m (bytes n v)) e ∙ sets_behind (bytes n v) xs ys k

-- ---- the stores of an upgrade, by the numbers that they store

abbrev patches_of : ℕ → ℕ → ℕ → ℕ → ℕ → List Patch
patches_of size audio third at name =
    halves 20 size
    ++ halves 28 audio
    ++ halves 36 third
    ++ (patch 44 0 ∷ patch 12 DS64 ∷ [])
    ++ []
    ++ (patch at ONES ∷ patch 4 ONES ∷ patch 0 name ∷ [])

-- in the opening, ahead of data's field
abbrev first_stores : ℕ → ℕ → ℕ → List ℕ → List ℕ
first_stores size audio third o = stored 4 12 DS64 (stored 4 44 0 (stored 8 36 third (stored 8 28 audio (stored 8 20 size o))))

-- and after it
abbrev last_stores : ℕ → List ℕ → List ℕ
last_stores name o = stored 4 0 name (stored 4 4 ONES o)

stores-are : (size audio third at name : ℕ) (s : List ℕ)
    → patched (patches_of size audio third at name) s ≡ last_stores name (stored 4 at ONES (first_stores size audio third s))
unfolding patched patch halves
stores-are size audio third at name s =
    ap (λ (l : List ℕ). last_stores name (stored 4 at ONES (stored 4 12 DS64 (stored 4 44 0 l))))
    (sym (stored-split 4 4 36 third (stored 4 32 (audio / 4294967296) (stored 4 28 audio (stored 4 24 (size / 4294967296) (stored 4 20 size s)))))
    ∙ ap (stored 8 36 third)
    (sym (stored-split 4 4 28 audio (stored 4 24 (size / 4294967296) (stored 4 20 size s)))
    ∙ ap (stored 8 28 audio) (sym (stored-split 4 4 20 size s))))

first-front : (size audio third : ℕ) (o r : List ℕ) → length o ≡ 48
    → first_stores size audio third (o ++ r) ≡ first_stores size audio third o ++ r
first-front size audio third o r h =
    let a = stored 8 20 size o in
    let b = stored 8 28 audio a in
    let c = stored 8 36 third b in
    let d = stored 4 44 0 c in
    let la : length a ≡ 48 = stored-length 8 20 size o ∙ h in
    let lb : length b ≡ 48 = stored-length 8 28 audio a ∙ la in
    let lc : length c ≡ 48 = stored-length 8 36 third b ∙ lb in
    let ld : length d ≡ 48 = stored-length 4 44 0 c ∙ lc in
    ap (λ (l : List ℕ). stored 4 12 DS64 (stored 4 44 0 (stored 8 36 third (stored 8 28 audio l)))) (stored-front 8 20 size o r (omega arith))
    ∙ ap (λ (l : List ℕ). stored 4 12 DS64 (stored 4 44 0 (stored 8 36 third l))) (stored-front 8 28 audio a r (omega arith))
    ∙ ap (λ (l : List ℕ). stored 4 12 DS64 (stored 4 44 0 l)) (stored-front 8 36 third b r (omega arith))
    ∙ ap (stored 4 12 DS64) (stored-front 4 44 0 c r (omega arith))
    ∙ stored-front 4 12 DS64 d r (omega arith)

first-long : (size audio third : ℕ) (o : List ℕ) → length (first_stores size audio third o) ≡ length o
first-long size audio third o =
    stored-length 4 12 DS64 _
    ∙ stored-length 4 44 0 _
    ∙ stored-length 8 36 third _
    ∙ stored-length 8 28 audio _
    ∙ stored-length 8 20 size o

last-front : (name : ℕ) (o r : List ℕ) → length o ≡ 48 → last_stores name (o ++ r) ≡ last_stores name o ++ r
last-front name o r h =
    ap (stored 4 0 name) (stored-front 4 4 ONES o r (omega arith))
    ∙ stored-front 4 0 name (stored 4 4 ONES o) r (omega (arith, stored-length 4 4 ONES o))

-- a file of an opening, what lies between, and data
whole : (size audio third at name : ℕ) (o m d : List ℕ) → length o ≡ 48 → at ≡ 48 + length m + 4
    → patched (patches_of size audio third at name) (o ++ (m ++ d))
    ≡ last_stores name (first_stores size audio third o) ++ (m ++ stored 4 4 ONES d)
whole size audio third at name o m d h e =
    let p = first_stores size audio third o in
    let n : length p ≡ 48 = first-long size audio third o ∙ h in
    stores-are size audio third at name (o ++ (m ++ d))
    ∙ ap (λ (l : List ℕ). last_stores name (stored 4 at ONES l)) (first-front size audio third o (m ++ d) h ∙ sym (append_assoc p m d))
    ∙ ap (last_stores name)
    (stored-behind 4 at 4 ONES (p ++ m) d (omega (arith, length-append p m)) ∙ append_assoc p m (stored 4 4 ONES d))
    ∙ last-front name p (m ++ stored 4 4 ONES d) n

-- ---- what they make of the opening and of data

opening-upgraded : (t : Target) (size audio frames riff : ℕ)
    → last_stores (target_name t) (first_stores size audio (third_of (target_form t) frames) (opening_bytes Riff riff audio frames))
    ≡ opening_bytes (target_form t) size audio frames
unfolding target_name target_form opening_bytes first_chunk chunk_bytes chunk_with pad_of name_of own_field stored bytes
opening-upgraded target.Rf64 size audio frames riff = refl
opening-upgraded target.Bw64 size audio frames riff = refl

data-upgraded : (t : Target) (a : List ℕ)
    → stored 4 4 ONES (chunk_with DATA (own_field Riff (length a)) a) ≡ chunk_with DATA (own_field (target_form t) (length a)) a
unfolding target_form chunk_with own_field stored bytes
data-upgraded target.Rf64 a = refl
data-upgraded target.Bw64 a = refl

-- ---- a written file

target-wide : (t : Target) → is_wide (target_form t) ≡ true
unfolding target_form is_wide
target-wide target.Rf64 = refl
target-wide target.Bw64 = refl

module _ (f : Format) (b c a : List ℕ) (w : Fine Riff f b c a) (small : length (file_bytes Riff f b c a) < 256 ^ 8) (t : Target) where
  abbrev file : List ℕ
  file = file_bytes Riff f b c a

  abbrev scan-of : Scan
  scan-of = back.scan-is Riff f b c a w small

  no_fact : has_fact scan-of ≡ false
  unfolding has_fact
  no_fact = ap (λ (n : ℕ). not (eqb n 0)) (back.facts-are Riff f b c a w small).no_fact

  size_is : form_size scan-of.head (number 4 4 file) ≡ form_size_for Riff f b c a
  size_is = omega (arith, (back.head_opened Riff f b c a w small).whole, back.size-whole Riff f b c a w small)

  audio_is : find DATA scan-of.rows ≡ entry (data_source Riff) DATA (80 + optional_size (length b) + optional_size (length c)) (length a)
  audio_is = (back.facts-are Riff f b c a w small).audio

  third_is : (u : Target) → third_for u scan-of file ≡ third_of (target_form u) (length a / f.block)
  unfolding frames target_form entry
  third_is target.Rf64 = third-frames scan-of file no_fact ∙ ap (λ (e : Entry). e.size / f.block) audio_is
  third_is target.Bw64 = third_zero scan-of file

  fact-none : (u : Target) → fact_patch u scan-of ≡ []
  unfolding fact_patch
  fact-none target.Rf64 = pick-false (has_fact scan-of) _ _ no_fact
  fact-none target.Bw64 = refl

  place_is : (find DATA scan-of.rows).place - 4 ≡ 76 + optional_size (length b) + optional_size (length c)
  unfolding entry
  place_is = omega (arith, ap (λ (e : Entry). e.place) audio_is)

  abbrev at : ℕ
  at = 76 + optional_size (length b) + optional_size (length c)

  abbrev third : ℕ
  third = third_of (target_form t) (length a / f.block)

  patches-are : patches t scan-of file ≡ patches_of (form_size_for Riff f b c a) (length a) third at (target_name t)
  unfolding patches entry
  patches-are =
      rw (size_is, third_is t, fact-none t, place_is, ap (λ (e : Entry). e.size) audio_is)

  abbrev between : List ℕ
  between = chunk_bytes FMT (format_bytes f) ++ (optional BEXT b ++ optional CHNA (pads_zeroed c))

  abbrev first : Form → ℕ → List ℕ
  first form size = opening_bytes form size (length a) (length a / f.block)

  split : (form : Form) → file_bytes form f b c a ≡ first form (form_size_for form f b c a) ++ (between ++ chunk_with DATA (own_field form (length a)) a)
  unfolding file_bytes body_bytes
  split form = simp append_assoc

  between-long : at ≡ 48 + length between + 4
  between-long =
      omega
      (arith, length-append (chunk_bytes FMT (format_bytes f)) (optional BEXT b ++ optional CHNA (pads_zeroed c)), length-append (optional BEXT b) (optional CHNA (pads_zeroed c)), fmt-length f w.input.sixteen, optional-length BEXT b, optional-length CHNA (pads_zeroed c), ap optional_size (zeroed-length c))

  same_size : form_size_for Riff f b c a ≡ form_size_for (target_form t) f b c a
  same_size =
      form-size f w.input.sixteen Riff b c a
      ∙ sym (form-size f w.input.sixteen (target_form t) b c a)

  bytes-are : patched (patches t scan-of file) file ≡ file_bytes (target_form t) f b c a
  bytes-are =
      let size : ℕ = form_size_for Riff f b c a in
      ap₂ patched patches-are (split Riff)
      ∙ whole size (length a) third at (target_name t) (first Riff size) between (chunk_with DATA (own_field Riff (length a)) a)
      (opening-length Riff size (length a) (length a / f.block)) between-long
      ∙ ap₂ (λ (o d : List ℕ). o ++ (between ++ d)) (opening-upgraded t size (length a) (length a / f.block) size) (data-upgraded t a)
      ∙ ap (λ (n : ℕ). first (target_form t) n ++ (between ++ chunk_with DATA (own_field (target_form t) (length a)) a)) same_size
      ∙ sym (split (target_form t))

  out-is : file_out (target_form t) f b c a ≡ Ok (file_bytes (target_form t) f b c a)
  unfolding file_out sizes_good
  out-is =
      check-true (input_good f b c a) _ _ w.is_good
      ∙ check-true (leb (length b) 4294967294 && (is_wide (target_form t) || leb (form_size_for (target_form t) f b c a) 4294967294)) _ _
      (ap₂ (λ (x y : Bool). x && (y || leb (form_size_for (target_form t) f b c a) 4294967294))
      (le-leb (length b) 4294967294 w.bext_fits) (target-wide t))

  pub upgrade-is : upgraded t file ≡ file_out (target_form t) f b c a
  unfolding is_wide reserved table_for first_name entry
  upgrade-is =
      upgrade-given t file scan-of (back.scan-accepts Riff f b c a w small) refl refl ∙ ap Ok bytes-are ∙ sym out-is
