-- The opening of a written file: its form, its form size and the first chunk read as they were written, so checks 1 to 5
-- hold.
-- Assumes nothing.
use mathlib.Core.Path.{◌≡◌, refl, ap, ◌∙◌}
use mathlib.Core.Bool.{true, false}
use mathlib.Core.List.{List, ◌++◌, append_assoc}
use Prim.Native.Nat.{ℕ, ◌+◌, ◌^◌, ◌≤◌, ◌<◌}
use native.Mathlib.Omega.{arith}
use lib.ListN.{length, drop, replicate}
use lib.Dec.{lit<}
use Rattle.le.specs.Number.{bytes, number}
use Rattle.le.proofs.Laws.{bytes-length, number_at, drop_past}
use Rattle.chunk.specs.Names.{WAVE, DS64, JUNK, DATA}
use Rattle.chunk.specs.Fields.{ONES}
use Rattle.chunk.specs.declared.Source.TheVariants.{DataSize}
use Rattle.chunk.specs.Refusals.{Ok}
use Rattle.chunk.specs.Walks.{field_size}
use Rattle.chunk.proofs.Checks.{true-false}
use Rattle.form.specs.declared.Form.{Form}
use Rattle.form.specs.declared.Form.TheVariants.{Riff, Rf64, Bw64}
use Rattle.form.specs.declared.Head.{Head}
use Rattle.form.specs.Forms.{LEAST, name_of, is_wide, ds64_at, no_ds64, form_size}
use Rattle.form.proofs.Heads.{Opened, rules-ds64, head-wide, form-own, form-ones}
use Rattle.form.proofs.Opens.{riff-finished}
use Rattle.truesize.specs.Sizes.{Ds64Entry, true_size}
use Rattle.truesize.proofs.Sizes.{true-own, true-ds64, true-data}
use Rattle.file_parts.specs.Parts.{chunk_with, chunk_bytes, first_chunk, own_field, opening_bytes, chunk_size}
use Rattle.writer.specs.WayBack.{data_source, first_name}
use Rattle.file_parts.proofs.Lengths.{opening-length}
use Rattle.writer.proofs.Places.{Stands, stands}

-- ---- the fields

-- the third number
abbrev pub third_of : Form → ℕ → ℕ
third_of Riff frames = 0
third_of Rf64 frames = frames
third_of Bw64 frames = 0

-- the payload of the first chunk
abbrev pub first_payload : Form → ℕ → ℕ → ℕ → List ℕ
first_payload Riff size audio frames = replicate LEAST 0
first_payload Rf64 size audio frames = bytes 8 size ++ (bytes 8 audio ++ (bytes 8 frames ++ bytes 4 0))
first_payload Bw64 size audio frames = bytes 8 size ++ (bytes 8 audio ++ (bytes 8 0 ++ bytes 4 0))

pub first-length : (form : Form) (size audio frames : ℕ) → length (first_payload form size audio frames) ≡ LEAST
unfolding bytes
first-length Riff size audio frames = refl
first-length Rf64 size audio frames = refl
first-length Bw64 size audio frames = refl

first-is : (form : Form) (size audio frames : ℕ)
    → first_chunk form size audio frames ≡ chunk_with (first_name form) LEAST (first_payload form size audio frames)
unfolding first_chunk chunk_bytes first_name bytes
first-is Riff size audio frames = refl
first-is Rf64 size audio frames = refl
first-is Bw64 size audio frames = refl

name-bound : (form : Form) → name_of form < 256 ^ 4
unfolding name_of
name-bound Riff = lit< tt
name-bound Rf64 = lit< tt
name-bound Bw64 = lit< tt

first-bound : (form : Form) → first_name form < 256 ^ 4
unfolding first_name
first-bound Riff = lit< tt
first-bound Rf64 = lit< tt
first-bound Bw64 = lit< tt

pub own-bound : (form : Form) (size : ℕ) → (form ≡ Riff → size ≤ 4294967294) → own_field form size < 256 ^ 4
unfolding own_field
own-bound Riff size h = let k = h refl in omega arith
own-bound Rf64 size h = lit< tt
own-bound Bw64 size h = lit< tt

-- ---- what stands ahead of fmt

pub record Opening (form : Form) (size audio frames : ℕ) (s body : List ℕ) : Type 0 where
  pub named : number 4 0 s ≡ name_of form
  pub own : number 4 4 s ≡ own_field form size
  pub wave : number 4 8 s ≡ WAVE
  pub first : Stands s 12 (first_name form) LEAST (first_payload form size audio frames) body
  pub rest : drop 48 s ≡ body

pub opening : (form : Form) (size audio frames : ℕ) (s body : List ℕ) → (form ≡ Riff → size ≤ 4294967294)
    → s ≡ opening_bytes form size audio frames ++ body → Opening form size audio frames s body
unfolding opening_bytes chunk_size
opening form size audio frames s body h e =
    let own : ℕ = own_field form size in
    let chunk : List ℕ = chunk_with (first_name form) LEAST (first_payload form size audio frames) in
    let flat : bytes 4 (name_of form) ++ (bytes 4 own ++ (bytes 4 WAVE ++ chunk)) ++ body
    ≡ bytes 4 (name_of form) ++ (bytes 4 own ++ (bytes 4 WAVE ++ (chunk ++ body))) = simp append_assoc in
    let e₀ : drop 0 s ≡ bytes 4 (name_of form) ++ (bytes 4 own ++ (bytes 4 WAVE ++ (chunk ++ body))) =
    e ∙ ap (λ (l : List ℕ). bytes 4 (name_of form) ++ (bytes 4 own ++ (bytes 4 WAVE ++ l)) ++ body) (first-is form size audio frames) ∙ flat in
    let e₄ : drop 4 s ≡ bytes 4 own ++ (bytes 4 WAVE ++ (chunk ++ body)) =
    drop_past 4 0 s (bytes 4 (name_of form)) (bytes 4 own ++ (bytes 4 WAVE ++ (chunk ++ body))) (bytes-length 4 (name_of form)) e₀ in
    let e₈ : drop 8 s ≡ bytes 4 WAVE ++ (chunk ++ body) =
    drop_past 4 4 s (bytes 4 own) (bytes 4 WAVE ++ (chunk ++ body)) (bytes-length 4 own) e₄ in
    let e₁₂ : drop 12 s ≡ chunk ++ body = drop_past 4 8 s (bytes 4 WAVE) (chunk ++ body) (bytes-length 4 WAVE) e₈ in
    record {
      named = number_at 4 0 (name_of form) s (bytes 4 own ++ (bytes 4 WAVE ++ (chunk ++ body))) (name-bound form) e₀;
      own = number_at 4 4 own s (bytes 4 WAVE ++ (chunk ++ body)) (own-bound form size h) e₄;
      wave = number_at 4 8 WAVE s (chunk ++ body) (lit< tt) e₈;
      first = stands s 12 (first_name form) LEAST (first_payload form size audio frames) body (first-bound form) (lit< tt) e₁₂;
      rest = drop_past 48 0 s (opening_bytes form size audio frames) body (opening-length form size audio frames) e;
    }

-- ---- ds64

pub record Numbers (size audio third : ℕ) (s : List ℕ) : Type 0 where
  pub riff : number 8 20 s ≡ size
  pub audio_is : number 8 28 s ≡ audio
  pub third_is : number 8 36 s ≡ third
  pub entries : number 4 44 s ≡ 0

numbers_of_lem : (size audio third : ℕ) (s rest : List ℕ) → size < 256 ^ 8 → audio < 256 ^ 8 → third < 256 ^ 8
    → drop 20 s ≡ bytes 8 size ++ (bytes 8 audio ++ (bytes 8 third ++ bytes 4 0)) ++ rest → Numbers size audio third s
numbers_of_lem size audio third s rest h k l e =
    let flat : bytes 8 size ++ (bytes 8 audio ++ (bytes 8 third ++ bytes 4 0)) ++ rest
    ≡ bytes 8 size ++ (bytes 8 audio ++ (bytes 8 third ++ (bytes 4 0 ++ rest))) = simp append_assoc in
    let e₂₀ = e ∙ flat in
    let e₂₈ : drop 28 s ≡ bytes 8 audio ++ (bytes 8 third ++ (bytes 4 0 ++ rest)) = drop_past 8 20 s (bytes 8 size) _ (bytes-length 8 size) e₂₀ in
    let e₃₆ : drop 36 s ≡ bytes 8 third ++ (bytes 4 0 ++ rest) = drop_past 8 28 s (bytes 8 audio) _ (bytes-length 8 audio) e₂₈ in
    let e₄₄ : drop 44 s ≡ bytes 4 0 ++ rest = drop_past 8 36 s (bytes 8 third) _ (bytes-length 8 third) e₃₆ in
    record {
      riff = number_at 8 20 size s _ h e₂₀;
      audio_is = number_at 8 28 audio s _ k e₂₈;
      third_is = number_at 8 36 third s _ l e₃₆;
      entries = number_at 4 44 0 s rest (lit< tt) e₄₄;
    }

pub numbers : (form : Form) (size audio frames : ℕ) (s body : List ℕ) → is_wide form ≡ true → size < 256 ^ 8 → audio < 256 ^ 8
    → frames < 256 ^ 8 → Opening form size audio frames s body → Numbers size audio (third_of form frames) s
unfolding is_wide
numbers Riff size audio frames s body w h k l o = absurd (true-false false w refl)
numbers Rf64 size audio frames s body w h k l o = numbers_of_lem size audio frames s _ h k l o.first.payload
numbers Bw64 size audio frames s body w h k l o = numbers_of_lem size audio 0 s _ h k (lit< tt) o.first.payload

-- ---- checks 1 to 5

abbrev pub head_for : Form → List ℕ → Head
head_for Riff s = record { form = Riff; ds64 = no_ds64 }
head_for Rf64 s = record { form = Rf64; ds64 = ds64_at s }
head_for Bw64 s = record { form = Bw64; ds64 = ds64_at s }

module _ (size audio frames : ℕ) (s body : List ℕ) (whole : 8 + size ≡ length s) (long : 20 + LEAST ≤ length s) where
  opened-wide : (form : Form) → is_wide form ≡ true → own_field form size ≡ ONES → first_name form ≡ DS64 → number 8 20 s ≡ size
      → number 4 44 s ≡ 0 → Opening form size audio frames s body → Opened s (record { form = form; ds64 = ds64_at s })
  unfolding ds64_at
  opened-wide form w own ds64 riff entries o =
      let ones : number 4 4 s ≡ ONES = o.own ∙ own in
      let same : form_size (record { form = form; ds64 = ds64_at s }) (number 4 4 s) ≡ size =
      ap (form_size (record { form = form; ds64 = ds64_at s })) ones ∙ form-ones _ ∙ riff in
      let sized : number 4 16 s ≡ LEAST = o.first.owned in
      record {
        long = omega arith;
        named = o.named;
        wave = o.wave;
        head =
            head-wide form s w
            (rules-ds64 (length s) (number 4 12 s) (number 4 16 s) (number 4 44 s)
            (record {
              named = o.first.named ∙ ds64;
              sized = λ k. omega arith;
              holds = omega arith;
              few = omega arith;
              ends = omega arith;
            }));
        whole = omega (arith, same);
        least = omega (arith, same);
      }

  pub opened : (form : Form) → (form ≡ Riff → size ≤ 4294967294) → (is_wide form ≡ true → Numbers size audio (third_of form frames) s)
      → Opening form size audio frames s body → Opened s (head_for form s)
  unfolding is_wide own_field first_name
  opened Riff h n o =
      let k = h refl in
      let plain : number 4 4 s ≡ ONES → ⊥ = λ e. omega (arith, o.own) in
      let same : form_size (head_for Riff s) (number 4 4 s) ≡ size = form-own (head_for Riff s) (number 4 4 s) plain ∙ o.own in
      record {
        long = omega arith;
        named = o.named;
        wave = o.wave;
        head = riff-finished s plain;
        whole = omega (arith, same);
        least = omega (arith, same);
      }
  opened Rf64 h n o = opened-wide Rf64 refl refl refl (n refl).riff (n refl).entries o
  opened Bw64 h n o = opened-wide Bw64 refl refl refl (n refl).riff (n refl).entries o

-- ---- the sizes that the scan knows

pub sized-first : (form : Form) (s : List ℕ) (ks : List Ds64Entry) → true_size (head_for form s) ks 12 (first_name form) LEAST ≡ Ok (field_size LEAST)
unfolding first_name is_wide
sized-first Riff s ks = true-own (head_for Riff s) ks 12 JUNK LEAST (λ e. omega arith) (λ e. omega arith)
sized-first Rf64 s ks = true-ds64 (head_for Rf64 s) ks LEAST refl (λ e. omega arith)
sized-first Bw64 s ks = true-ds64 (head_for Bw64 s) ks LEAST refl (λ e. omega arith)

pub sized-data : (form : Form) (s : List ℕ) (ks : List Ds64Entry) (n at : ℕ) → (form ≡ Riff → n ≤ 4294967294)
    → (is_wide form ≡ true → number 8 28 s ≡ n) → true_size (head_for form s) ks at DATA (own_field form n) ≡ Ok (record { bytes = n; source = data_source form })
unfolding own_field is_wide ds64_at data_source
sized-data Riff s ks n at h k = let l = h refl in true-own (head_for Riff s) ks at DATA n (λ e. omega arith) (λ e. omega arith)
sized-data Rf64 s ks n at h k = true-data (head_for Rf64 s) ks at refl ∙ ap (λ (m : ℕ). Ok (record { bytes = m; source = DataSize })) (k refl)
sized-data Bw64 s ks n at h k = true-data (head_for Bw64 s) ks at refl ∙ ap (λ (m : ℕ). Ok (record { bytes = m; source = DataSize })) (k refl)
