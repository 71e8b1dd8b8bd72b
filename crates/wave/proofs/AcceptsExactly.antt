-- The listing accepts exactly the files of a good shape, and the scan exactly the good files. Of a listed file each chunk is
-- cut out of the bytes where its row says, and the chunks so cut, end to end, are the file; the way back is GoodFiles.
-- Assumes nothing.
use mathlib.Core.Path.{◌≡◌, refl, sym, ap, ap₂, ◌∙◌, subst}
use mathlib.Core.Bool.{Bool, true, false}
use mathlib.Core.List.Memᴰ
use mathlib.Core.List.{List, [], ◌∷◌, ◌++◌, append_assoc, map, Memᴰ}
use Prim.Native.Nat.{ℕ, ◌+◌, ◌-◌, ◌%◌, ◌^◌, ◌≤◌, ◌<◌}
use native.Mathlib.Omega.{arith}
use lib.ListN.{length, drop, drop_of_length-le, length-map}
use lib.Dec.{eqb}
use borrow.Author.Tests.{eqb-true}
use Rattle.le.specs.Number.{Bytes, bytes, field, number}
use Rattle.le.proofs.Laws.{field-length, field-then, number-then, number_bound, Bytes-drop}
use Rattle.chunk.specs.declared.Entry.{Entry}
use Rattle.chunk.specs.Refusals.{Ok}
use Rattle.chunk.specs.Names.{DS64, FMT, DATA, FACT}
use Rattle.chunk.specs.Fields.{ONES}
use Rattle.chunk.specs.Tables.{find}
use Rattle.chunk.specs.Walks.{Rule, past}
use Rattle.chunk.proofs.Checks.{true-false, given-inj, check-given, and_then-given}
use Rattle.chunk.proofs.Finds.{counted, only}
use Rattle.chunk.proofs.Laid.{row-size, Row, Laid, done, next, row_fits, laid-lies}
use Rattle.form.specs.declared.Form.{Form}
use Rattle.form.specs.declared.Form.TheVariants.{Riff, Rf64, Bw64}
use Rattle.form.specs.declared.Ds64.{Ds64}
use Rattle.form.specs.declared.Head.{Head}
use Rattle.form.specs.Forms.{is_wide, ds64_at, no_ds64, head_as, form_size, LEAST}
use Rattle.form.proofs.Heads.{Opened, Ds64Rules, ds64-rules, riff-head, wide-head, form-own, form-ones}
use Rattle.truesize.specs.Sizes.{Ds64Entry, entries_in, entries_of, true_size}
use Rattle.truesize.specs.Told.{Told}
use Rattle.truesize.proofs.Sizes.{own-true, ds64-first}
use Rattle.truesize.proofs.Told.{size-told}
use Rattle.fmt.specs.declared.Format.{Format}
use Rattle.fmt.specs.Formats.{format_in}
use Rattle.listing.specs.Listings.{Listing}
use Rattle.listing.proofs.Checked.{Checked, listing-checked}
use Rattle.wave.specs.Scans.{payload, whole_blocks, judged, Scan, listing_of}
use Rattle.wave.specs.Tables.{own_field}
use Rattle.wave.specs.Grammar.{Chunk, chunk_bytes, all_bytes, file_bytes, row_at, rows_at, Without, Ds64First, GoodChunk, GoodShape, GoodFile, ListsExactly, AcceptsExactly}
use Rattle.wave.proofs.Scanned.{Scanned, scan-scanned}
use Rattle.wave.proofs.Tables.{laid-first}
use Rattle.wave.proofs.Ds64Bytes.{entries-count, entries_fit, ds64-bytes}
use Rattle.wave.proofs.GoodFiles.{chunk-length, good-listing, good-scan}

-- ---- the chunk that a row says

abbrev cut : List ℕ → Entry → Chunk
cut s e =
    record {
      name = e.name;
      field = own_field s e;
      payload = payload e s;
      pad = field (e.size % 2) (e.place + e.size) s;
      source = e.source;
    }

-- its payload and its pad have their lengths
payload-length : (s : List ℕ) (e : Entry) → past e ≤ length s → length (payload e s) ≡ e.size
unfolding payload past
payload-length s e h = field-length e.size e.place s (omega arith)

pad-length : (s : List ℕ) (e : Entry) → past e ≤ length s → length (cut s e).pad ≡ e.size % 2
unfolding past
pad-length s e h = field-length (e.size % 2) (e.place + e.size) s (omega arith)

-- ---- rows that are laid are cut into the bytes

module _ {rule : Rule} (s : List ℕ) (b : Bytes s) where
  cut-bytes : {at : ℕ} {e : Entry} → Row rule s at e → drop at s ≡ chunk_bytes (cut s e) ++ drop (past e) s
  unfolding chunk_bytes payload past own_field
  cut-bytes {at} {e} r =
      let long = row_fits r in
      let p₄ : at + 4 ≡ e.place - 4 = omega (arith, r.place) in
      let p₈ : at + 4 + 4 ≡ e.place = omega (arith, r.place) in
      let tail : List ℕ = drop (past e) s in
      let own : List ℕ = bytes 4 (own_field s e) in
      number-then 4 at s b (omega (arith, long))
      ∙ ap₂ (λ (v : ℕ) (l : List ℕ). bytes 4 v ++ l) r.named
      (number-then 4 (at + 4) s b (omega (arith, long))
      ∙ ap₂ (λ (v : ℕ) (l : List ℕ). bytes 4 v ++ l) (ap (λ (k : ℕ). number 4 k s) p₄)
      (ap (λ (k : ℕ). drop k s) p₈
      ∙ field-then e.size e.place s
      ∙ ap (λ (l : List ℕ). payload e s ++ l) (field-then (e.size % 2) (e.place + e.size) s)))
      ∙ simp append_assoc

  laid-bytes : {at : ℕ} {rows : List Entry} → Laid rule s at rows → drop at s ≡ all_bytes (map (cut s) rows)
  unfolding all_bytes
  laid-bytes {at} (done h) =
      let end : length s ≤ at = omega (arith, h) in
      drop_of_length-le s end
  laid-bytes (next {e = e} r l) = cut-bytes r ∙ ap (λ (t : List ℕ). chunk_bytes (cut s e) ++ t) (laid-bytes l)

  laid-rows : {at : ℕ} {rows : List Entry} → Laid rule s at rows → rows_at at (map (cut s) rows) ≡ rows
  unfolding rows_at row_at
  laid-rows (done h) = refl
  laid-rows {at} (next {e = e} {es = es} r l) =
      let n = payload-length s e r.ends in
      let to : at + length (chunk_bytes (cut s e)) ≡ past e =
      unfold past in omega (arith, chunk-length (cut s e), n, pad-length s e r.ends, r.place) in
      ap₂ (λ (x : Entry) (xs : List Entry). x ∷ xs)
      (λ i. record { name = e.name; place = sym r.place i; size = n i; source = e.source })
      (ap (λ (k : ℕ). rows_at k (map (cut s) es)) to ∙ laid-rows l)

-- ---- a listed file

riff-form : (f : Form) → is_wide f ≡ false → f ≡ Riff
unfolding is_wide
riff-form Riff v = refl
riff-form Rf64 v = absurd (true-false true refl v)
riff-form Bw64 v = absurd (true-false true refl v)

module _ (s : List ℕ) (b : Bytes s) (l : Listing) (t : Checked s l) where
  abbrev form : Form
  form = l.head.form

  abbrev ks : List Ds64Entry
  ks = entries_of l.head s

  abbrev rule : Rule
  rule = true_size l.head ks

  abbrev o : Opened s l.head
  o = t.opened

  abbrev laid : Laid rule s 12 l.rows
  laid = t.laid

  abbrev cs : List Chunk
  cs = map (cut s) l.rows

  -- what holds of the chunk of each row holds of each chunk
  of-rows : (P : Chunk → Type 0) → ((e : Entry) → Memᴰ e l.rows → P (cut s e)) → (c : Chunk) → Memᴰ c cs → P c
  of-rows P f c m = let r = Memᴰ.of_map (cut s) l.rows m in subst P r.2 (f r.0 r.1)

  -- ---- the header

  file-is : s ≡ file_bytes form (number 4 4 s) cs
  unfolding file_bytes
  file-is =
      number-then 4 0 s b (omega (arith, o.long))
      ∙ ap₂ (λ (v : ℕ) (l : List ℕ). bytes 4 v ++ l) o.named
      (number-then 4 4 s b (omega (arith, o.long))
      ∙ ap (λ (l : List ℕ). bytes 4 (number 4 4 s) ++ l)
      (number-then 4 8 s b (omega (arith, o.long))
      ∙ ap₂ (λ (v : ℕ) (l : List ℕ). bytes 4 v ++ l) o.wave (laid-bytes s b laid)))

  riff-is : is_wide form ≡ false → (number 4 4 s ≡ ONES → ⊥) × (l.head ≡ record { form = Riff; ds64 = no_ds64 })
  riff-is v = riff-head s l.head (subst (λ (f : Form). head_as f s ≡ Ok l.head) (riff-form form v) o.head)

  form-wide : number 4 4 s ≡ ONES → (x : Bool) → is_wide form ≡ x → is_wide form ≡ true
  form-wide k true w = w
  form-wide k false v = absurd ((riff-is v).0 k)

  -- ---- each chunk

  chunk-good : (e : Entry) → Memᴰ e l.rows → GoodChunk form l.head.ds64 ks (cut s e)
  unfolding own_field
  chunk-good e m =
      let r = laid-lies laid m in
      let n = payload-length s e r.ends in
      let w = t.chunked in
      record {
        name_fits = subst (λ (k : ℕ). k < 256 ^ 4) r.named (number_bound 4 (e.place - 8) s b);
        field_fits = number_bound 4 (e.place - 4) s b;
        padded = pad-length s e r.ends ∙ ap (λ (k : ℕ). k % 2) (sym n);
        sized =
            subst (λ (k : ℕ). Told form l.head.ds64 ks e.name (own_field s e) (record { bytes = k; source = e.source })) (sym n)
            (size-told l.head ks (e.place - 8) e.name (own_field s e) (row-size e) r.sized);
        fact = λ p.
            let f = ap (λ (x : Entry). x.size) (only FACT l.rows e w.fact m p) in
            let h = w.fact_holds (λ z. omega (arith, z, counted FACT l.rows e m p)) in
            omega (arith, f, h, n);
      }

  -- ---- ds64

  -- a row of that name is the first of a 64-bit form
  ds64-row : (e : Entry) → Memᴰ e l.rows → e.name ≡ DS64 → (is_wide form ≡ true) × (e.place ≡ 20)
  ds64-row e m p =
      let r = laid-lies laid m in
      let c = ds64-first l.head ks (e.place - 8) e.name (own_field s e) (row-size e) (unfold own_field in r.sized) p in
      (c.0, omega (arith, c.1, r.after))

  ds64-is : is_wide form ≡ true → Ds64First l.head.ds64 ks cs
  unfolding ds64_at entries_of payload own_field past Without
  ds64-is w =
      let h = wide-head form s l.head w o.head in
      let r = ds64-rules (length s) (number 4 12 s) (number 4 16 s) (number 4 44 s) h.0 in
      let f = laid-first l.rows laid (omega (arith, r.ends)) in
      subst (λ (d : Ds64). Ds64First d (entries_in d.count (drop (20 + LEAST) s)) cs) (sym (ap (λ (x : Head). x.ds64) h.1))
      (gather r f.0 f.1 f.2 f.3 f.4)
    where
      gather : Ds64Rules (length s) (number 4 12 s) (number 4 16 s) (number 4 44 s) → (e : Entry) (es : List Entry)
          → l.rows ≡ e ∷ es → Row rule s 12 e → Laid rule s (past e) es
          → Ds64First (ds64_at s) (entries_in (number 4 44 s) (drop (20 + LEAST) s)) cs
      gather r e es is row later =
          let size : e.size ≡ number 4 16 s =
          own-true l.head ks 12 e.name (number 4 16 s) _ row.sized r.sized in
          let p = ds64-bytes e.size s b (omega (arith, size, r.holds)) (omega (arith, size, r.ends)) in
          record {
            first = cut s e;
            later = map (cut s) es;
            is = ap (map (cut s)) is;
            named = sym row.named ∙ r.named;
            once = λ c m q.
                let x = Memᴰ.of_map (cut s) es m in
                let z = ds64-row x.0 (subst (λ (rows : List Entry). Memᴰ x.0 rows) (sym is) (Memᴰ.tail x.1))
                (ap (λ (y : Chunk). y.name) x.2 ∙ q) in
                omega (arith, z.1, (laid-lies later x.1).after, row.place);
            sized = λ k. r.sized (ap (λ (j : ℕ). number 4 (j - 4) s) (sym row.place) ∙ k);
            more = p.0;
            payload = ap (λ (j : ℕ). field e.size j s) row.place ∙ p.1;
            counts = sym (entries-count (number 4 44 s) (drop (20 + LEAST) s));
            few = r.few;
            fits = (number_bound 8 20 s b, number_bound 8 28 s b, number_bound 8 36 s b);
            entries_fit = entries_fit (number 4 44 s) (drop (20 + LEAST) s) (Bytes-drop (20 + LEAST) s b);
          }

  riff-none : is_wide form ≡ false → (l.head.ds64 ≡ no_ds64) × (ks ≡ []) × Without DS64 cs
  unfolding entries_of entries_in no_ds64 Without
  riff-none v =
      let h = (riff-is v).1 in (
        ap (λ (x : Head). x.ds64) h,
        ap (λ (x : Head). entries_in x.ds64.count (drop (20 + LEAST) s)) h,
        of-rows (λ (c : Chunk). c.name ≡ DS64 → ⊥) (λ e m p. true-false (is_wide form) (ds64-row e m p).0 v),
      )

  -- ---- the shape

  checked-good : GoodShape s l
  checked-good =
      let w = t.chunked in
      record {
        field = number 4 4 s;
        chunks = cs;
        is = file-is;
        fits = number_bound 4 4 s b;
        own = λ k. ap (λ (n : ℕ). 8 + n) (sym (form-own l.head (number 4 4 s) k)) ∙ o.whole;
        ones = λ k. (
          form-wide k (is_wide form) refl,
          ap (λ (n : ℕ). 8 + n) (sym (form-ones l.head) ∙ ap (form_size l.head) (sym k)) ∙ o.whole,
        );
        entries = ks;
        wide = ds64-is;
        riff = riff-none;
        good = of-rows (GoodChunk form l.head.ds64 ks) chunk-good;
        most = omega (arith, length-map l.rows (cut s), t.few);
        rows = sym (laid-rows s b laid);
        one_fmt = w.one_fmt;
        one_data = w.one_data;
        fmt_first = w.fmt_first;
        bext = w.bext;
        chna = w.chna;
        fact = w.fact;
      }

-- ---- checks 11 and 12

format-is : (s : List ℕ) (a : Scan) → Scanned s a
    → (format_in (payload (find FMT a.rows) s) ≡ Ok a.format) × ((find DATA a.rows).size % a.format.block ≡ 0)
unfolding judged whole_blocks
format-is s a t =
    let c = and_then-given (format_in (payload (find FMT a.rows) s)) _ a.format t.format in
    let w = check-given (eqb ((find DATA a.rows).size % c.0.block) 0) _ _ a.format c.2 in
    let f : c.0 ≡ a.format = given-inj c.0 a.format w.1 in (
      c.1 ∙ ap Ok f,
      ap (λ (x : Format). (find DATA a.rows).size % x.block) (sym f) ∙ eqb-true _ _ w.0,
    )

scanned-good : (s : List ℕ) → Bytes s → (a : Scan) → Scanned s a → GoodFile s a
unfolding checked-good
scanned-good s b a t =
    let l = t.listed in
    let w = l.chunked in
    let is = format-is s a t in
    let k = checked-good s b (listing_of a) l in
    record {
      field = k.field;
      chunks = k.chunks;
      is = k.is;
      fits = k.fits;
      own = k.own;
      ones = k.ones;
      entries = k.entries;
      wide = k.wide;
      riff = k.riff;
      good = k.good;
      most = k.most;
      rows = k.rows;
      one_fmt = k.one_fmt;
      one_data = k.one_data;
      fmt_first = k.fmt_first;
      bext = k.bext;
      chna = k.chna;
      fact = k.fact;
      format =
          of-rows s b (listing_of a) l (λ (c : Chunk). c.name ≡ FMT → format_in c.payload ≡ Ok a.format)
          (λ e m p.
          ap (λ (x : Entry). format_in (payload x s)) (only FMT a.rows e (omega (arith, w.one_fmt)) m p) ∙ is.0);
      blocks =
          of-rows s b (listing_of a) l (λ (c : Chunk). c.name ≡ DATA → length c.payload % a.format.block ≡ 0)
          (λ e m p.
          ap (λ (n : ℕ). n % a.format.block)
          (payload-length s e (laid-lies l.laid m).ends
          ∙ ap (λ (x : Entry). x.size) (only DATA a.rows e (omega (arith, w.one_data)) m p))
          ∙ is.1);
    }

-- The listing accepts exactly the files of a good shape.
pub lists-exactly : ListsExactly
unfolding ListsExactly
lists-exactly s b l = (λ e. checked-good s b l (listing-checked s l e), good-listing s l)

-- The scan accepts exactly the good files.
pub accepts-exactly : AcceptsExactly
unfolding AcceptsExactly
accepts-exactly s b a = (λ e. scanned-good s b a (scan-scanned s a e), good-scan s a)

-- So a file is good in one way at most: with one form, one table and one format.
pub good-once : (s : List ℕ) (a c : Scan) → GoodFile s a → GoodFile s c → a ≡ c
good-once s a c g h = given-inj a c (sym (good-scan s a g) ∙ good-scan s c h)
