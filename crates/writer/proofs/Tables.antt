-- The table of a written file: it has each chunk once at most, and a search finds each where it stands. By cases of the
-- form, and of whether bext and chna are there.
-- Assumes nothing.
use mathlib.Core.Path.{◌≡◌, refl, ap, ◌∙◌}
use mathlib.Core.Bool.{Bool, true, false}
use mathlib.Core.List.{List, [], ◌∷◌, ◌++◌}
use Prim.Native.Nat.{ℕ, ◌+◌, ◌≤◌}
use native.Mathlib.Omega.{arith}
use lib.Dec.{eqb, lit≤}
use lib.ListN.{length}
use borrow.Author.Tests.{eq-eqb, ne_eqb}
use Rattle.le.specs.Choice.{pick}
use Rattle.chunk.specs.declared.Entry.{Entry}
use Rattle.chunk.specs.declared.Source.TheVariants.{Own}
use Rattle.chunk.specs.Names.{FMT, DATA, FACT, BEXT, CHNA}
use Rattle.chunk.specs.Tables.{count, find}
use Rattle.form.specs.Forms.{LEAST}
use Rattle.form.specs.declared.Form.{Form}
use Rattle.form.specs.declared.Form.TheVariants.{Riff, Rf64, Bw64}
use Rattle.listing.proofs.Checked.{Chunked}
use Rattle.file_parts.specs.Parts.{optional_size}
use Rattle.writer.specs.WayBack.{entry, data_source, first_name, row_for, table_for}

-- a table without bext where x, and without chna where y
abbrev table_if : Form → Bool → Bool → ℕ → ℕ → ℕ → ℕ → ℕ → ℕ → List Entry
table_if form x y p m q n r k =
    entry Own (first_name form) 20 LEAST
    ∷ (entry Own FMT 56 16
    ∷ (pick x [] (entry Own BEXT p m ∷ []) ++ (pick y [] (entry Own CHNA q n ∷ []) ++ (entry (data_source form) DATA r k ∷ []))))

pub record Facts (form : Form) (rows : List Entry) (r k : ℕ) : Type 0 where
  pub fmt : find FMT rows ≡ entry Own FMT 56 16
  pub audio : find DATA rows ≡ entry (data_source form) DATA r k
  pub one_fmt : count FMT rows ≡ 1
  pub one_data : count DATA rows ≡ 1
  pub few_bext : count BEXT rows ≤ 1
  pub few_chna : count CHNA rows ≤ 1
  pub no_fact : count FACT rows ≡ 0
  pub few : length rows ≤ 5

facts-of : {form : Form} {rows : List Entry} {r k : ℕ} → find FMT rows ≡ entry Own FMT 56 16 → find DATA rows ≡ entry (data_source form) DATA r k → count FMT rows ≡ 1
    → count DATA rows ≡ 1 → count BEXT rows ≤ 1 → count CHNA rows ≤ 1 → count FACT rows ≡ 0 → length rows ≤ 5 → Facts form rows r k
facts-of a b c d e f g h =
    record { fmt = a; audio = b; one_fmt = c; one_data = d; few_bext = e; few_chna = f; no_fact = g; few = h }

module _ (p m q n r k : ℕ) where
  facts-if : (form : Form) (x y : Bool) → Facts form (table_if form x y p m q n r k) r k
  unfolding first_name pick count find entry
  facts-if Riff true true = facts-of refl refl refl refl (lit≤ tt) (lit≤ tt) refl (lit≤ tt)
  facts-if Riff true false = facts-of refl refl refl refl (lit≤ tt) (lit≤ tt) refl (lit≤ tt)
  facts-if Riff false true = facts-of refl refl refl refl (lit≤ tt) (lit≤ tt) refl (lit≤ tt)
  facts-if Riff false false = facts-of refl refl refl refl (lit≤ tt) (lit≤ tt) refl (lit≤ tt)
  facts-if Rf64 true true = facts-of refl refl refl refl (lit≤ tt) (lit≤ tt) refl (lit≤ tt)
  facts-if Rf64 true false = facts-of refl refl refl refl (lit≤ tt) (lit≤ tt) refl (lit≤ tt)
  facts-if Rf64 false true = facts-of refl refl refl refl (lit≤ tt) (lit≤ tt) refl (lit≤ tt)
  facts-if Rf64 false false = facts-of refl refl refl refl (lit≤ tt) (lit≤ tt) refl (lit≤ tt)
  facts-if Bw64 true true = facts-of refl refl refl refl (lit≤ tt) (lit≤ tt) refl (lit≤ tt)
  facts-if Bw64 true false = facts-of refl refl refl refl (lit≤ tt) (lit≤ tt) refl (lit≤ tt)
  facts-if Bw64 false true = facts-of refl refl refl refl (lit≤ tt) (lit≤ tt) refl (lit≤ tt)
  facts-if Bw64 false false = facts-of refl refl refl refl (lit≤ tt) (lit≤ tt) refl (lit≤ tt)

  bext-if : (form : Form) (y : Bool) → find BEXT (table_if form false y p m q n r k) ≡ entry Own BEXT p m
  unfolding first_name pick find entry
  bext-if Riff y = refl
  bext-if Rf64 y = refl
  bext-if Bw64 y = refl

  no-bext-if : (form : Form) (y : Bool) → count BEXT (table_if form true y p m q n r k) ≡ 0
  unfolding first_name pick count entry
  no-bext-if Riff true = refl
  no-bext-if Riff false = refl
  no-bext-if Rf64 true = refl
  no-bext-if Rf64 false = refl
  no-bext-if Bw64 true = refl
  no-bext-if Bw64 false = refl

  chna-if : (form : Form) (x : Bool) → find CHNA (table_if form x false p m q n r k) ≡ entry Own CHNA q n
  unfolding first_name pick find entry
  chna-if Riff true = refl
  chna-if Riff false = refl
  chna-if Rf64 true = refl
  chna-if Rf64 false = refl
  chna-if Bw64 true = refl
  chna-if Bw64 false = refl

  no-chna-if : (form : Form) (x : Bool) → count CHNA (table_if form x true p m q n r k) ≡ 0
  unfolding first_name pick count entry
  no-chna-if Riff true = refl
  no-chna-if Riff false = refl
  no-chna-if Rf64 true = refl
  no-chna-if Rf64 false = refl
  no-chna-if Bw64 true = refl
  no-chna-if Bw64 false = refl

-- ---- the table of a written file

module _ (form : Form) (b c a : ℕ) where
  pub facts : Facts form (table_for form b c a) (80 + optional_size b + optional_size c) a
  unfolding table_for row_for
  facts = facts-if 80 b (80 + optional_size b) c (80 + optional_size b + optional_size c) a form (eqb b 0) (eqb c 0)

  pub bext-found : (b ≡ 0 → ⊥) → find BEXT (table_for form b c a) ≡ entry Own BEXT 80 b
  unfolding table_for row_for
  bext-found h =
      ap (λ (x : Bool). find BEXT (table_if form x (eqb c 0) 80 b (80 + optional_size b) c (80 + optional_size b + optional_size c) a)) (ne_eqb b 0 h)
      ∙ bext-if 80 b (80 + optional_size b) c (80 + optional_size b + optional_size c) a form (eqb c 0)

  pub bext-absent : b ≡ 0 → count BEXT (table_for form b c a) ≡ 0
  unfolding table_for row_for
  bext-absent h =
      ap (λ (x : Bool). count BEXT (table_if form x (eqb c 0) 80 b (80 + optional_size b) c (80 + optional_size b + optional_size c) a)) (eq-eqb b 0 h)
      ∙ no-bext-if 80 b (80 + optional_size b) c (80 + optional_size b + optional_size c) a form (eqb c 0)

  pub chna-found : (c ≡ 0 → ⊥) → find CHNA (table_for form b c a) ≡ entry Own CHNA (80 + optional_size b) c
  unfolding table_for row_for
  chna-found h =
      ap (λ (y : Bool). find CHNA (table_if form (eqb b 0) y 80 b (80 + optional_size b) c (80 + optional_size b + optional_size c) a)) (ne_eqb c 0 h)
      ∙ chna-if 80 b (80 + optional_size b) c (80 + optional_size b + optional_size c) a form (eqb b 0)

  pub chna-absent : c ≡ 0 → count CHNA (table_for form b c a) ≡ 0
  unfolding table_for row_for
  chna-absent h =
      ap (λ (y : Bool). count CHNA (table_if form (eqb b 0) y 80 b (80 + optional_size b) c (80 + optional_size b + optional_size c) a)) (eq-eqb c 0 h)
      ∙ no-chna-if 80 b (80 + optional_size b) c (80 + optional_size b + optional_size c) a form (eqb b 0)

  -- check 10
  pub chunked : Chunked (table_for form b c a)
  unfolding entry
  chunked =
      let w = facts in
      record {
        one_fmt = w.one_fmt;
        one_data = w.one_data;
        fmt_first = omega (arith, ap (λ (e : Entry). e.place) w.fmt, ap (λ (e : Entry). e.place) w.audio);
        bext = w.few_bext;
        chna = w.few_chna;
        fact = omega (arith, w.no_fact);
        fact_holds = λ h. absurd (h w.no_fact);
      }
