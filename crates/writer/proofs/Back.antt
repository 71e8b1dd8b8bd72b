-- A written file read back: its rows are laid in it, each payload is found where the table says, and the scan accepts it.
-- Assumes nothing.
use mathlib.Core.Path.{◌≡◌, refl, sym, ap, ap₂, ◌∙◌}
use mathlib.Core.Bool.{true}
use mathlib.Core.List.{List, [], ◌++◌, append-nil}
use Prim.Native.Nat.{ℕ, ◌+◌, ◌/◌, ◌%◌, ◌^◌, ◌≤◌, ◌<◌}
use native.Mathlib.Nat.{div-le_self}
use native.Mathlib.Omega.{arith}
use lib.ListN.{length, drop}
use lib.Dec.{eqb, lit<}
use borrow.Author.Tests.{eq-eqb}
use Rattle.std.proofs.Common.{Option, None}
use Rattle.le.specs.Number.{field}
use Rattle.chunk.specs.declared.Entry.{Entry}
use Rattle.chunk.specs.declared.Source.TheVariants.{Own}
use Rattle.chunk.specs.declared.Refusal.TheVariants.{RaggedAudio}
use Rattle.chunk.specs.Refusals.{Answer, Ok}
use Rattle.chunk.specs.Names.{FMT, DATA, BEXT, CHNA, DS64}
use Rattle.chunk.specs.Fields.{ONES}
use Rattle.chunk.specs.Tables.{LIMIT, find}
use Rattle.chunk.specs.Walks.{Rule, field_size, own_size}
use Rattle.chunk.proofs.Checks.{check-true, and_then-at}
use Rattle.chunk.proofs.Laid.{Laid, done, laid-walk, own-given}
use Rattle.form.specs.declared.Form.{Form}
use Rattle.form.specs.declared.Form.TheVariants.{Riff}
use Rattle.form.specs.declared.Head.{Head}
use Rattle.form.specs.Forms.{LEAST, is_wide}
use Rattle.form.proofs.Heads.{Opened, opened-32}
use Rattle.truesize.specs.Sizes.{true_size, entries_of}
use Rattle.truesize.proofs.Sizes.{true-own}
use Rattle.fmt.specs.declared.Format.{Format}
use Rattle.fmt.specs.Formats.{format_in}
use Rattle.fmt.specs.Writing.{format_bytes}
use Rattle.fmt.proofs.Payloads.{out_of}
use Rattle.fmt.proofs.RoundTrip.{reads-back}
use Rattle.chna.specs.Records.{pads_zeroed}
use Rattle.wave.specs.Scans.{payload, whole_blocks, judged, Scan, scan, walk_from, walk32}
use Rattle.samples.specs.Counts.{samples_of}
use Rattle.wave.proofs.Scanned.{scanned-scan}
use Rattle.samples.proofs.Counts.{samples-none, samples-given}
use Rattle.file_parts.specs.Parts.{chunk_with, chunk_bytes, optional, own_field, chunk_size, optional_size}
use Rattle.file.specs.Files.{body_bytes, form_size_for, file_bytes}
use Rattle.file.specs.Code.{file_size}
use Rattle.writer.specs.WayBack.{entry, data_source, first_name, table_for}
use Rattle.file.proofs.Inputs.{chna-short}
use Rattle.file.proofs.Outs.{Fine}
use Rattle.chna.proofs.Pads.{zeroed-length}
use Rattle.file.proofs.Sizes.{format-length, form-size, file-length}
use Rattle.writer.proofs.Places.{Stands, stands, laid_next, laid-optional, optional-next, optional-stands}
use Rattle.writer.proofs.Openings.{third_of, first-length, own-bound, Opening, opening, Numbers, numbers, head_for, opened, sized-first, sized-data}
use Rattle.writer.proofs.Tables as tables

-- ---- what a rule of sizes has to know of a written file

pub record Knows (form : Form) (n : ℕ) (rule : Rule) : Type 0 where
  pub first : rule 12 (first_name form) LEAST ≡ Ok (field_size LEAST)
  pub plain : (at name own : ℕ) → (name ≡ DS64 → ⊥) → (own ≡ ONES → ⊥) → rule at name own ≡ Ok (field_size own)
  pub audio : (at : ℕ) → rule at DATA (own_field form n) ≡ Ok (record { bytes = n; source = data_source form })

module _ (form : Form) (f : Format) (b c a : List ℕ) (w : Fine form f b c a) (small : length (file_bytes form f b c a) < 256 ^ 8) where
  abbrev pub s : List ℕ
  s = file_bytes form f b c a

  abbrev pub chna-at : ℕ
  chna-at = 72 + optional_size (length b)

  abbrev pub data-at : ℕ
  data-at = 72 + optional_size (length b) + optional_size (length c)

  abbrev pub table : List Entry
  table = table_for form (length b) (length c) (length a)

  sixteen : length (format_bytes f) ≡ 16
  sixteen = format-length f w.input.sixteen

  pub file-long : length s ≡ file_size (length b) (length c) (length a)
  file-long = file-length f w.input.sixteen form b c a

  pub size-whole : 8 + form_size_for form f b c a ≡ length s
  unfolding file_size
  size-whole = omega (arith, form-size f w.input.sixteen form b c a, file-long)

  audio-inside : 8 + length a ≤ form_size_for form f b c a
  unfolding file_size chunk_size
  audio-inside = omega (arith, size-whole, file-long)

  -- ---- the chunks

  pub opening-is : Opening form (form_size_for form f b c a) (length a) (length a / f.block) s (body_bytes form f b c a)
  unfolding file_bytes
  opening-is =
      opening form (form_size_for form f b c a) (length a) (length a / f.block) s (body_bytes form f b c a) w.form_fits refl

  fmt-stands : Stands s 48 FMT (length (format_bytes f)) (format_bytes f)
      (optional BEXT b ++ (optional CHNA (pads_zeroed c) ++ chunk_with DATA (own_field form (length a)) a))
  unfolding body_bytes chunk_bytes
  fmt-stands = stands s 48 FMT (length (format_bytes f)) (format_bytes f) _ (lit< tt) (omega (arith, sixteen)) opening-is.rest

  bext-next : drop 72 s ≡ optional BEXT b ++ (optional CHNA (pads_zeroed c) ++ chunk_with DATA (own_field form (length a)) a)
  unfolding chunk_size
  bext-next = sym (ap (λ (n : ℕ). drop (48 + chunk_size n) s) sixteen) ∙ fmt-stands.next

  chna-next : drop chna-at s ≡ optional CHNA (pads_zeroed c) ++ chunk_with DATA (own_field form (length a)) a
  chna-next = optional-next s 72 BEXT b _ bext-next

  data-next : drop data-at s ≡ chunk_with DATA (own_field form (length a)) a ++ []
  data-next =
      ap (λ (n : ℕ). drop (chna-at + optional_size n) s) (sym (zeroed-length c))
      ∙ optional-next s chna-at CHNA (pads_zeroed c) _ chna-next
      ∙ sym (append-nil (chunk_with DATA (own_field form (length a)) a))

  audio-fits : form ≡ Riff → length a ≤ 4294967294
  audio-fits r = omega (arith, w.form_fits r, audio-inside)

  data-stands : Stands s data-at DATA (own_field form (length a)) a []
  data-stands = stands s data-at DATA (own_field form (length a)) a [] (lit< tt) (own-bound form (length a) audio-fits) data-next

  chna-bound : length (pads_zeroed c) < 256 ^ 4
  chna-bound = omega (arith, zeroed-length c, chna-short f b c a w.input)

  bext-stands : (length b ≡ 0 → ⊥) → Stands s 72 BEXT (length b) b (optional CHNA (pads_zeroed c) ++ chunk_with DATA (own_field form (length a)) a)
  bext-stands h = optional-stands s 72 BEXT b _ (lit< tt) (omega (arith, w.bext_fits)) h bext-next

  chna-stands : (length c ≡ 0 → ⊥)
      → Stands s chna-at CHNA (length (pads_zeroed c)) (pads_zeroed c) (chunk_with DATA (own_field form (length a)) a)
  chna-stands h =
      optional-stands s chna-at CHNA (pads_zeroed c) _ (lit< tt) chna-bound (λ e. h (sym (zeroed-length c) ∙ e)) chna-next

  -- ---- the rows

  end : data-at + chunk_size (length a) ≡ length s
  unfolding file_size
  end = sym file-long

  pub laid : (rule : Rule) → Knows form (length a) rule → Laid rule s 12 table
  unfolding table_for chunk_size
  laid rule k =
      let small-c : length c ≤ 41003 = chna-short f b c a w.input in
      laid_next rule s 12 (first_name form) LEAST _ _ _ Own 20 LEAST opening-is.first refl
      (first-length form (form_size_for form f b c a) (length a) (length a / f.block)) k.first
      (laid_next rule s 48 FMT (length (format_bytes f)) _ _ _ Own 56 16 fmt-stands refl sixteen
      (ap (rule 48 FMT) sixteen ∙ k.plain 48 FMT 16 (λ e. omega arith) (λ e. omega arith))
      (laid-optional rule s 72 BEXT b _ _ 80 (length b) (lit< tt) (omega (arith, w.bext_fits)) bext-next refl refl
      (k.plain 72 BEXT (length b) (λ e. omega arith) (λ e. omega (arith, w.bext_fits)))
      (laid-optional rule s chna-at CHNA (pads_zeroed c) _ _ (80 + optional_size (length b)) (length c) (lit< tt) chna-bound chna-next
      (omega arith) (zeroed-length c) (k.plain chna-at CHNA (length c) (λ e. omega arith) (λ e. omega arith))
      (laid_next rule s data-at DATA (own_field form (length a)) a [] [] (data_source form) (80 + optional_size (length b) + optional_size (length c)) (length a)
      data-stands (omega arith) refl (k.audio data-at) (done end)))))

  -- ---- the scan

  frames-fit : length a / f.block < 256 ^ 8
  frames-fit = omega (arith, div-le_self (length a) f.block, audio-inside, size-whole)

  pub numbers-are : is_wide form ≡ true → Numbers (form_size_for form f b c a) (length a) (third_of form (length a / f.block)) s
  numbers-are wide =
      numbers form (form_size_for form f b c a) (length a) (length a / f.block) s (body_bytes form f b c a) wide
      (omega (arith, size-whole)) (omega (arith, audio-inside, size-whole)) frames-fit opening-is

  abbrev pub head : Head
  head = head_for form s

  pub head_opened : Opened s head
  unfolding file_size chunk_size
  head_opened =
      opened (form_size_for form f b c a) (length a) (length a / f.block) s (body_bytes form f b c a) size-whole (omega (arith, file-long))
      form w.form_fits numbers-are opening-is

  true-knows : Knows form (length a) (true_size head (entries_of head s))
  true-knows =
      record {
        first = sized-first form s (entries_of head s);
        plain = λ at name own h k. true-own head (entries_of head s) at name own h k;
        audio = λ at. sized-data form s (entries_of head s) (length a) at audio-fits (λ wide. (numbers-are wide).audio_is);
      }

  pub facts-are : tables.Facts form table (80 + optional_size (length b) + optional_size (length c)) (length a)
  facts-are = tables.facts form (length b) (length c) (length a)

  pub fmt-payload : payload (find FMT table) s ≡ format_bytes f
  unfolding payload entry
  fmt-payload =
      ap (λ (e : Entry). payload e s) facts-are.fmt ∙ ap (λ (n : ℕ). field n 56 s) (sym sixteen) ∙ fmt-stands.holds

  pub fmt-read : format_in (format_bytes f) ≡ Ok f
  fmt-read = reads-back f (format_bytes f) (out_of f w.input.fmt)

  judged-is : judged (payload (find FMT table) s) (find DATA table).size ≡ Ok f
  unfolding judged whole_blocks entry
  judged-is =
      ap₂ judged fmt-payload (ap (λ (e : Entry). e.size) facts-are.audio)
      ∙ and_then-at (format_in (format_bytes f)) (λ (g : Format). whole_blocks (length a) g) f fmt-read
      ∙ check-true (eqb (length a % f.block) 0) RaggedAudio (Ok f) (eq-eqb (length a % f.block) 0 w.input.blocks)

  abbrev pub scan-is : Scan
  scan-is = record { head = head; rows = table; format = f }

  pub scan-accepts : scan s ≡ Ok scan-is
  scan-accepts =
      scanned-scan s scan-is
      (record {
        listed =
            record {
              opened = head_opened;
              laid = laid (true_size head (entries_of head s)) true-knows;
              few = omega (arith, facts-are.few);
              chunked = tables.chunked form (length b) (length c) (length a);
            };
        format = judged-is;
      })

  -- ---- the payloads

  pub bext-payload : (length b ≡ 0 → ⊥) → payload (find BEXT table) s ≡ b
  unfolding payload entry
  bext-payload h = ap (λ (e : Entry). payload e s) (tables.bext-found form (length b) (length c) (length a) h) ∙ (bext-stands h).holds

  pub chna-payload : (length c ≡ 0 → ⊥) → payload (find CHNA table) s ≡ pads_zeroed c
  unfolding payload entry
  chna-payload h =
      let at : 80 + optional_size (length b) ≡ chna-at + 8 = omega arith in
      ap (λ (e : Entry). payload e s) (tables.chna-found form (length b) (length c) (length a) h)
      ∙ ap₂ (λ (n m : ℕ). field n m s) (sym (zeroed-length c)) at
      ∙ (chna-stands h).holds

  pub audio-payload : payload (find DATA table) s ≡ a
  unfolding payload entry
  audio-payload =
      let at : 80 + optional_size (length b) + optional_size (length c) ≡ data-at + 8 = omega arith in
      ap (λ (e : Entry). payload e s) facts-are.audio ∙ ap (λ (m : ℕ). field (length a) m s) at ∙ data-stands.holds

  -- ---- sample count and walk

  pub no-samples : samples_of s ≡ Ok None
  no-samples = samples-given s scan-is scan-accepts ∙ ap (λ (n : Option ℕ). Ok n) (samples-none scan-is s facts-are.no_fact)

  own-knows : form ≡ Riff → Knows form (length a) own_size
  unfolding own_field data_source
  own-knows r =
      record {
        first = own-given 12 (first_name form) LEAST (λ e. omega arith);
        plain = λ at name own h k. own-given at name own k;
        audio = λ at.
            ap (own_size at DATA) (ap (λ (x : Form). own_field x (length a)) r)
            ∙ own-given at DATA (length a) (λ e. omega (arith, audio-fits r))
            ∙ ap (λ (x : Form). Ok (record { bytes = length a; source = data_source x })) (sym r);
      }

  pub walk-whole : form ≡ Riff → walk32 s ≡ record { rows = table; end = Ok tt }
  unfolding walk32 walk_from
  walk-whole r =
      ap (λ (x : Answer ℕ). walk_from x s) (opened-32 s head head_opened)
      ∙ laid-walk LIMIT (laid own_size (own-knows r)) (omega (arith, facts-are.few))
