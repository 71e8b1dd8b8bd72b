-- A file of a good shape is listed and a good one accepted, with its table: its chunks stand where the lengths before them
-- say, so that their rows are laid in it by the listing's rule, and each check is a rule of the grammar.
-- Assumes nothing.
use mathlib.Core.Path.{◌≡◌, refl, sym, ap, ◌∙◌, subst}
use mathlib.Core.Bool.{Bool, true, false, not}
use mathlib.Core.Logic.{◌⊎◌, inl, inr}
use mathlib.Core.List.Memᴰ
use mathlib.Core.List.{List, [], ◌∷◌, ◌++◌, append_assoc, Memᴰ}
use Prim.Native.Nat.{ℕ, suc, ◌+◌, ◌*◌, ◌%◌, ◌^◌, ◌≤◌, ◌<◌}
use native.Mathlib.Omega.{arith}
use lib.ListN.{length, drop, length-append, length-drop}
use lib.Dec.{eqb, lit<}
use borrow.Author.Tests.{eq-eqb, ne_eqb, eqb-true, eqb-false}
use Rattle.le.specs.Number.{bytes, field, number}
use Rattle.le.proofs.Laws.{bytes-length, number_at, drop_past, field_at}
use Rattle.chunk.specs.declared.Entry.{Entry}
use Rattle.chunk.specs.declared.Refusal.TheVariants.{Unfinished, RaggedAudio}
use Rattle.chunk.specs.Refusals.{Ok}
use Rattle.chunk.specs.Names.{WAVE, FMT, DATA, FACT}
use Rattle.chunk.specs.Fields.{ONES}
use Rattle.chunk.specs.Tables.{count, find}
use Rattle.chunk.specs.Walks.{Rule, past}
use Rattle.chunk.proofs.Checks.{true-false, check-true, and_then-at}
use Rattle.chunk.proofs.Finds.{found}
use Rattle.chunk.proofs.Laid.{Laid, done, next}
use Rattle.form.specs.declared.Form.{Form}
use Rattle.form.specs.declared.Form.TheVariants.{Riff, Rf64, Bw64}
use Rattle.form.specs.declared.Ds64.{Ds64}
use Rattle.form.specs.Forms.{name_of, is_wide, ds64_good, ds64_at, no_ds64, head_as, wide_as, form_size}
use Rattle.form.proofs.Heads.{Opened, rules-ds64, head-wide, form-own, form-ones}
use Rattle.truesize.proofs.Told.{told-size}
use Rattle.truesize.specs.Sizes.{Ds64Entry, entries_in, entries_of, stray_ds64, true_size}
use Rattle.truesize.proofs.Sizes.{other-placed, first-placed}
use Rattle.fmt.specs.declared.Format.{Format}
use Rattle.fmt.specs.Formats.{format_in}
use Rattle.listing.specs.Listings.{Listing, listing}
use Rattle.wave.specs.Scans.{payload, whole_blocks, judged, judged_in, Scan, listing_of, scan}
use Rattle.wave.specs.Grammar.{Chunk, chunk_bytes, all_bytes, file_bytes, ds64_bytes, size_of, row_at, rows_at, Without, Ds64First, GoodShape, GoodFile}
use Rattle.listing.proofs.Checked.{Chunked, Checked, checked-listing}
use Rattle.wave.proofs.Scanned.{scanned-scan}
use Rattle.wave.proofs.Ds64Bytes.{ds64-length, ds64-read}

-- ---- a chunk

pub chunk-length : (c : Chunk) → length (chunk_bytes c) ≡ 8 + length c.payload + length c.pad
unfolding chunk_bytes
chunk-length c =
    omega (
      arith,
      length-append (bytes 4 c.name) (bytes 4 c.field ++ (c.payload ++ c.pad)),
      length-append (bytes 4 c.field) (c.payload ++ c.pad),
      length-append c.payload c.pad,
      bytes-length 4 c.name,
      bytes-length 4 c.field,
    )

-- a chunk that stands at an offset
record Stands (s : List ℕ) (at : ℕ) (c : Chunk) (rest : List ℕ) : Type 0 where
  named : number 4 at s ≡ c.name
  owned : number 4 (at + 4) s ≡ c.field
  payload : drop (at + 8) s ≡ c.payload ++ (c.pad ++ rest)
  ends : at + length (chunk_bytes c) ≤ length s
  next : drop (at + length (chunk_bytes c)) s ≡ rest

stands : (s : List ℕ) (at : ℕ) (c : Chunk) (rest : List ℕ) → c.name < 256 ^ 4 → c.field < 256 ^ 4
    → drop at s ≡ chunk_bytes c ++ rest → Stands s at c rest
unfolding chunk_bytes
stands s at c rest n o e =
    let tail : List ℕ = c.payload ++ (c.pad ++ rest) in
    let flat : chunk_bytes c ++ rest ≡ bytes 4 c.name ++ (bytes 4 c.field ++ tail) = simp append_assoc in
    let e₀ : drop at s ≡ bytes 4 c.name ++ (bytes 4 c.field ++ tail) = e ∙ flat in
    let e₄ : drop (at + 4) s ≡ bytes 4 c.field ++ tail = drop_past 4 at s (bytes 4 c.name) _ (bytes-length 4 c.name) e₀ in
    let eight : at + 8 ≡ at + 4 + 4 = omega arith in
    record {
      named = number_at 4 at c.name s _ n e₀;
      owned = number_at 4 (at + 4) c.field s tail o e₄;
      payload =
          ap (λ (k : ℕ). drop k s) eight ∙ drop_past 4 (at + 4) s (bytes 4 c.field) tail (bytes-length 4 c.field) e₄;
      ends = omega (arith, length-drop at s, ap length e, length-append (chunk_bytes c) rest, chunk-length c);
      next = drop_past (length (chunk_bytes c)) at s (chunk_bytes c) rest refl e;
    }

-- ---- chunks end to end

-- each has a name and a field of 4 bytes, and its pad
record Fits (c : Chunk) : Type 0 where
  name : c.name < 256 ^ 4
  own : c.field < 256 ^ 4
  padded : length c.pad ≡ length c.payload % 2

-- a chunk's row, and rows laid after it
laid_next : {rule : Rule} {s : List ℕ} {at : ℕ} {c : Chunk} {rest : List ℕ} {rows : List Entry} → Fits c → Stands s at c rest
    → rule at c.name c.field ≡ Ok (size_of c) → Laid rule s (at + length (chunk_bytes c)) rows
    → Laid rule s at (row_at at c ∷ rows)
unfolding row_at past
laid_next {rule} {s} {at} {c} {rest} {rows} f w h l =
    let to : past (row_at at c) ≡ at + length (chunk_bytes c) = omega (arith, chunk-length c, f.padded) in
    next
    (record { place = refl; named = w.named; sized = ap (rule at c.name) w.owned ∙ h; ends = omega (arith, to, w.ends) })
    (subst (λ (k : ℕ). Laid rule s k rows) (sym to) l)

laid-all : (rule : Rule) (s : List ℕ) (at : ℕ) (cs : List Chunk) → at ≤ length s → drop at s ≡ all_bytes cs
    → ((c : Chunk) → Memᴰ c cs → Fits c)
    → ((p : ℕ) (c : Chunk) → Memᴰ c cs → rule p c.name c.field ≡ Ok (size_of c))
    → Laid rule s at (rows_at at cs)
unfolding all_bytes rows_at
laid-all rule s at [] k e f g =
    let end : at ≡ length s = omega (arith, length-drop at s, ap length e) in
    done end
laid-all rule s at (c ∷ cs) k e f g =
    let fit = f c (Memᴰ.head refl) in
    let w = stands s at c (all_bytes cs) fit.name fit.own e in
    laid_next fit w (g at c (Memᴰ.head refl))
    (laid-all rule s (at + length (chunk_bytes c)) cs w.ends w.next (λ x m. f x (Memᴰ.tail m)) (λ p x m. g p x (Memᴰ.tail m)))

rows-length : (at : ℕ) (cs : List Chunk) → length (rows_at at cs) ≡ length cs
unfolding rows_at
rows-length at [] = refl
rows-length at (c ∷ cs) = ap suc (rows-length (at + length (chunk_bytes c)) cs)

-- the chunk of a row
record Of (s : List ℕ) (cs : List Chunk) (e : Entry) : Type 0 where
  chunk : Chunk
  mem : Memᴰ chunk cs
  named : chunk.name ≡ e.name
  sized : length chunk.payload ≡ e.size
  holds : field e.size e.place s ≡ chunk.payload

row_of : (s : List ℕ) (at : ℕ) (cs : List Chunk) (e : Entry) → drop at s ≡ all_bytes cs → ((c : Chunk) → Memᴰ c cs → Fits c)
    → Memᴰ e (rows_at at cs) → Of s cs e
unfolding all_bytes rows_at row_at
row_of s at [] e h f m = absurd (Memᴰ.not-nil m)
row_of s at (c ∷ cs) e h f m =
    go (row_of s (at + length (chunk_bytes c)) cs e w.next (λ x k. f x (Memᴰ.tail k))) (Memᴰ.cases_cons m)
  where
    w : Stands s at c (all_bytes cs)
    w = stands s at c (all_bytes cs) (f c (Memᴰ.head refl)).name (f c (Memᴰ.head refl)).own h

    go : (Memᴰ e (rows_at (at + length (chunk_bytes c)) cs) → Of s cs e)
        → (e ≡ row_at at c) ⊎ Memᴰ e (rows_at (at + length (chunk_bytes c)) cs) → Of s (c ∷ cs) e
    go below (inl p) =
        subst (Of s (c ∷ cs)) (sym p)
        (record {
          chunk = c;
          mem = Memᴰ.head refl;
          named = refl;
          sized = refl;
          holds = field_at (length c.payload) (at + 8) s c.payload (c.pad ++ all_bytes cs) refl w.payload;
        })
    go below (inr k) =
        let b = below k in
        record { chunk = b.chunk; mem = Memᴰ.tail b.mem; named = b.named; sized = b.sized; holds = b.holds }

-- ---- the file

name-bound : (form : Form) → name_of form < 256 ^ 4
unfolding name_of
name-bound Riff = lit< tt
name-bound Rf64 = lit< tt
name-bound Bw64 = lit< tt

not_wide : (form : Form) → (is_wide form ≡ false) ⊎ (is_wide form ≡ true)
unfolding is_wide
not_wide Riff = inl refl
not_wide Rf64 = inr refl
not_wide Bw64 = inr refl

module _ (s : List ℕ) (l : Listing) (g : GoodShape s l) where
  abbrev form : Form
  form = l.head.form

  abbrev rule : Rule
  rule = true_size l.head (entries_of l.head s)

  fits_all : (c : Chunk) → Memᴰ c g.chunks → Fits c
  fits_all c m = let k = g.good c m in record { name = k.name_fits; own = k.field_fits; padded = k.padded }

  -- ---- the header

  record Header : Type 0 where
    named : number 4 0 s ≡ name_of form
    own : number 4 4 s ≡ g.field
    wave : number 4 8 s ≡ WAVE
    rest : drop 12 s ≡ all_bytes g.chunks
    long : 12 ≤ length s

  header : Header
  unfolding file_bytes
  header =
      let e₀ : drop 0 s ≡ file_bytes form g.field g.chunks = g.is in
      let e₄ = drop_past 4 0 s (bytes 4 (name_of form)) _ (bytes-length 4 (name_of form)) e₀ in
      let e₈ = drop_past 4 4 s (bytes 4 g.field) _ (bytes-length 4 g.field) e₄ in
      let e₁₂ = drop_past 4 8 s (bytes 4 WAVE) (all_bytes g.chunks) (bytes-length 4 WAVE) e₈ in
      record {
        named = number_at 4 0 (name_of form) s _ (name-bound form) e₀;
        own = number_at 4 4 g.field s _ g.fits e₄;
        wave = number_at 4 8 WAVE s _ (lit< tt) e₈;
        rest = e₁₂;
        long =
            omega (
              arith,
              length-drop 8 s,
              ap length e₈,
              length-append (bytes 4 WAVE) (all_bytes g.chunks),
              bytes-length 4 WAVE,
            );
      }

  -- ---- ds64

  module _ (w : is_wide form ≡ true) where
    abbrev f : Ds64First l.head.ds64 g.entries g.chunks
    f = g.wide w

    first-mem : Memᴰ f.first g.chunks
    first-mem = subst (λ (cs : List Chunk). Memᴰ f.first cs) (sym f.is) (Memᴰ.head refl)

    later-mem : (c : Chunk) → Memᴰ c f.later → Memᴰ c g.chunks
    later-mem c m = subst (λ (cs : List Chunk). Memᴰ c cs) (sym f.is) (Memᴰ.tail m)

    first-stands : Stands s 12 f.first (all_bytes f.later)
    unfolding all_bytes
    first-stands =
        let k = fits_all f.first first-mem in
        stands s 12 f.first (all_bytes f.later) k.name k.own (header.rest ∙ ap all_bytes f.is)

    -- its numbers and its entries are what the listing reads
    numbers-are : (ds64_at s ≡ l.head.ds64) × (entries_of l.head s ≡ g.entries)
    unfolding entries_of
    numbers-are =
        let d : Ds64 = l.head.ds64 in
        let end : List ℕ = f.first.pad ++ all_bytes f.later in
        let r = ds64-read s d g.entries (f.more ++ end) f.fits (omega (arith, f.few)) f.entries_fit
        (first-stands.payload ∙ ap (λ (x : List ℕ). x ++ end) f.payload ∙ append_assoc (ds64_bytes d g.entries) f.more end) in
        (r.0, ap (λ (n : ℕ). entries_in n (drop 48 s)) f.counts ∙ r.1)

    ds64-good : ds64_good (length s) (number 4 12 s) (number 4 16 s) (number 4 44 s) ≡ true
    unfolding ds64_at
    ds64-good =
        let d : Ds64 = l.head.ds64 in
        let st = first-stands in
        let size : number 4 16 s ≡ length f.first.payload = st.owned ∙ ((g.good f.first first-mem).sized.plain f.sized).0 in
        let count : number 4 44 s ≡ length g.entries = ap (λ (x : Ds64). x.count) numbers-are.0 ∙ f.counts in
        let long : 28 + 12 * length g.entries ≤ length f.first.payload =
        omega (arith, ap length f.payload, length-append (ds64_bytes d g.entries) f.more, ds64-length d g.entries) in
        rules-ds64 (length s) (number 4 12 s) (number 4 16 s) (number 4 44 s)
        (record {
          named = st.named ∙ f.named;
          sized = λ o. f.sized (sym st.owned ∙ o);
          holds = omega (arith, size, count, long);
          few = omega (arith, count, f.counts, f.few);
          ends = omega (arith, size, st.ends, chunk-length f.first, (fits_all f.first first-mem).padded);
        })

  -- ---- checks 1 to 5

  head-is : head_as form s ≡ Ok l.head
  unfolding head_as wide_as is_wide
  head-is = go form refl
    where
      wide : (x : Form) → form ≡ x → is_wide x ≡ true → head_as x s ≡ Ok l.head
      wide x e w =
          let v : is_wide form ≡ true = ap is_wide e ∙ w in
          head-wide x s w (ds64-good v)
          ∙ ap Ok (λ i. record { form = sym e i; ds64 = (numbers-are v).0 i })

      go : (x : Form) → form ≡ x → head_as x s ≡ Ok l.head
      go Riff e =
          let v : is_wide form ≡ false = ap is_wide e in
          check-true (not (eqb (number 4 4 s) ONES)) Unfinished _
          (ap not (ne_eqb (number 4 4 s) ONES (λ o. true-false (is_wide form) (g.ones (sym header.own ∙ o)).0 v)))
          ∙ ap Ok (λ i. record { form = sym e i; ds64 = sym (g.riff v).0 i })
      go Rf64 e = wide Rf64 e refl
      go Bw64 e = wide Bw64 e refl

  whole : 8 + form_size l.head (number 4 4 s) ≡ length s
  whole = ap (λ (k : ℕ). 8 + form_size l.head k) header.own ∙ go (eqb g.field ONES) refl
    where
      go : (b : Bool) → eqb g.field ONES ≡ b → 8 + form_size l.head g.field ≡ length s
      go true e =
          let o = eqb-true g.field ONES e in
          ap (λ (k : ℕ). 8 + form_size l.head k) o ∙ ap (λ (k : ℕ). 8 + k) (form-ones l.head) ∙ (g.ones o).1
      go false e =
          let o = eqb-false g.field ONES e in
          ap (λ (k : ℕ). 8 + k) (form-own l.head g.field o) ∙ g.own o

  opened : Opened s l.head
  opened =
      record {
        long = header.long;
        named = header.named;
        wave = header.wave;
        head = head-is;
        whole = whole;
        least = omega (arith, whole, header.long);
      }

  -- ---- the rows

  entries-are : entries_of l.head s ≡ g.entries
  unfolding entries_of entries_in no_ds64
  entries-are = go (not_wide form)
    where
      go : (is_wide form ≡ false) ⊎ (is_wide form ≡ true) → entries_of l.head s ≡ g.entries
      go (inl v) =
          let r = g.riff v in
          ap (λ (d : Ds64). entries_in d.count (drop 48 s)) r.0 ∙ sym r.1
      go (inr w) = (numbers-are w).1

  size-known : (p : ℕ) (c : Chunk) → Memᴰ c g.chunks → stray_ds64 form p c.name ≡ false
      → rule p c.name c.field ≡ Ok (size_of c)
  size-known p c m h =
      ap (λ (ks : List Ds64Entry). true_size l.head ks p c.name c.field) entries-are
      ∙ told-size l.head g.entries p c.name c.field (size_of c) h (g.good c m).sized

  laid : Laid rule s 12 l.rows
  unfolding rows_at Without
  laid = subst (Laid rule s 12) (sym g.rows) (go (not_wide form))
    where
      go : (is_wide form ≡ false) ⊎ (is_wide form ≡ true) → Laid rule s 12 (rows_at 12 g.chunks)
      go (inl v) =
          laid-all rule s 12 g.chunks header.long header.rest fits_all
          (λ p c m. size-known p c m (other-placed form p c.name ((g.riff v).2 c m)))
      go (inr w) =
          let d = g.wide w in
          let st = first-stands w in
          subst (λ (cs : List Chunk). Laid rule s 12 (rows_at 12 cs)) (sym d.is)
          (laid_next (fits_all d.first (first-mem w)) st
          (size-known 12 d.first (first-mem w) (ap (stray_ds64 form 12) d.named ∙ first-placed form w))
          (laid-all rule s (12 + length (chunk_bytes d.first)) d.later st.ends st.next
          (λ c m. fits_all c (later-mem w c m))
          (λ p c m. size-known p c (later-mem w c m) (other-placed form p c.name (d.once c m)))))

  -- ---- check 10

  -- the chunk that a name finds
  chunk_of : (name : ℕ) → 1 ≤ count name l.rows → Of s g.chunks (find name l.rows)
  chunk_of name h =
      row_of s 12 g.chunks (find name l.rows) header.rest fits_all
      (subst (λ (rows : List Entry). Memᴰ (find name l.rows) rows) g.rows (found name l.rows h).mem)

  chunked : Chunked l.rows
  chunked =
      record {
        one_fmt = g.one_fmt;
        one_data = g.one_data;
        fmt_first = g.fmt_first;
        bext = g.bext;
        chna = g.chna;
        fact = g.fact;
        fact_holds = λ k.
            let h : 1 ≤ count FACT l.rows = omega (arith, k) in
            let c = chunk_of FACT h in
            let least = (g.good c.chunk c.mem).fact (c.named ∙ (found FACT l.rows h).named) in
            omega (arith, c.sized, least);
      }

  rows_few : length l.rows ≤ 64
  rows_few = omega (arith, g.most, ap length g.rows, rows-length 12 g.chunks)

  good-checked : Checked s l
  good-checked = record { opened = opened; laid = laid; few = rows_few; chunked = chunked }

  -- A file of a good shape is listed, with its form and its table.
  pub good-listing : listing s ≡ Ok l
  good-listing = checked-listing s l good-checked

-- ---- checks 11 and 12

-- a good file has the shape of one
abbrev pub shape_of : (s : List ℕ) (a : Scan) → GoodFile s a → GoodShape s (listing_of a)
shape_of s a g =
    record {
      field = g.field;
      chunks = g.chunks;
      is = g.is;
      fits = g.fits;
      own = g.own;
      ones = g.ones;
      entries = g.entries;
      wide = g.wide;
      riff = g.riff;
      good = g.good;
      most = g.most;
      rows = g.rows;
      one_fmt = g.one_fmt;
      one_data = g.one_data;
      fmt_first = g.fmt_first;
      bext = g.bext;
      chna = g.chna;
      fact = g.fact;
    }

module _ (s : List ℕ) (a : Scan) (g : GoodFile s a) where
  format-is : judged_in a.rows s ≡ Ok a.format
  unfolding judged whole_blocks payload
  format-is =
      let h = shape_of s a g in
      let hf : 1 ≤ count FMT a.rows = omega (arith, h.one_fmt) in
      let hd : 1 ≤ count DATA a.rows = omega (arith, h.one_data) in
      let c = chunk_of s (listing_of a) h FMT hf in
      let d = chunk_of s (listing_of a) h DATA hd in
      let size : ℕ = (find DATA a.rows).size in
      and_then-at (format_in (payload (find FMT a.rows) s)) (λ (x : Format). whole_blocks size x) a.format
      (ap format_in c.holds ∙ g.format c.chunk c.mem (c.named ∙ (found FMT a.rows hf).named))
      ∙ check-true (eqb (size % a.format.block) 0) RaggedAudio (Ok a.format)
      (eq-eqb (size % a.format.block) 0
      (ap (λ (n : ℕ). n % a.format.block) (sym d.sized)
      ∙ g.blocks d.chunk d.mem (d.named ∙ (found DATA a.rows hd).named)))

  -- A good file is accepted, with its form, its table and its format.
  pub good-scan : scan s ≡ Ok a
  good-scan = scanned-scan s a (record { listed = good-checked s (listing_of a) (shape_of s a g); format = format-is })
