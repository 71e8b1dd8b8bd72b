-- A take upgraded. Each header reads as it did, but for the first name and data's own field, and by the new rule each size
-- is the old one; so the same rows are laid in the new file, and the scan accepts it. The rest is what lies beside the
-- stores, and the first half of demand 3 at the new file.
-- Assumes nothing.
use mathlib.Core.Path.{◌≡◌, refl, sym, ◌∙◌, ap, ap₂, subst}
use mathlib.Core.Bool.{Bool, true, false}
use mathlib.Core.Logic.{◌⊎◌, inl, inr}
use mathlib.Core.List.Memᴰ
use mathlib.Core.List.{List, ◌∷◌, Memᴰ}
use Prim.Native.Nat.{ℕ, ◌-◌}
use native.Mathlib.Omega.{arith}
use lib.ListN.{length, length-map}
use lib.Dec.{eqb, lit≤}
use borrow.Author.Tests.{eqb-true, eqb-false}
use Rattle.std.specs.Prelude.{Some}
use Rattle.le.specs.Number.{number}
use Rattle.chunk.specs.declared.Entry.{Entry}
use Rattle.chunk.specs.declared.Source.{Source}
use Rattle.chunk.specs.declared.TrueSize.{TrueSize}
use Rattle.chunk.specs.declared.Refusal.TheVariants.{UnknownSize}
use Rattle.chunk.specs.Names.{DS64, JUNK, FMT, FACT, DATA}
use Rattle.chunk.specs.Fields.{ONES}
use Rattle.chunk.specs.Refusals.{Err, Ok}
use Rattle.chunk.specs.Tables.{count, find}
use Rattle.chunk.specs.Walks.{Rule, field_size, past}
use Rattle.chunk.proofs.Laid.{row-size, Row, Laid, next, laid-lies, Shown, relaid-as}
use Rattle.chunk.proofs.Finds.{only}
use Rattle.form.specs.declared.Form.{Form}
use Rattle.form.specs.declared.Head.{Head}
use Rattle.form.specs.Forms.{ds64_at, form_size}
use Rattle.form.proofs.Heads.{Opened, head-wide, rules-ds64, form-ones}
use Rattle.truesize.specs.Sizes.{true_size, entries_of}
use Rattle.truesize.proofs.Sizes.{true-own, true-ds64, true-data, own_is, riff-own}
use Rattle.fmt.specs.declared.Format.{Format}
use Rattle.wave.specs.Scans.{Scan, scan, payload, judged, walk32}
use Rattle.samples.specs.Counts.{fact_count, samples_in, samples_of}
use Rattle.wave.specs.Tables.{own_field}
use Rattle.wave.specs.Demand3.{Sized}
use Rattle.wave.proofs.Scanned.{scanned-scan}
use Rattle.samples.proofs.Counts.{fact-riff, fact-bw64, fact-third, samples-none, samples-fact, samples-given}
use Rattle.wave.proofs.FirstHalf.{first-half}
use Rattle.upgrade.specs.declared.Target.{Target}
use Rattle.upgrade.specs.declared.Target.TheVariants as target
use Rattle.upgrade.specs.Upgrades.{has_fact, third_for, patches, patched}
use Rattle.upgrade.specs.Demand3.{renamed, marked, ahead_of, target_form, changed, Beside, Holds, Upgraded}
use Rattle.upgrade.proofs.Patches.{patched-length}
use Rattle.upgrade.proofs.Stores.{field-beside, number-beside, byte-beside, holds}
use Rattle.upgrade.proofs.Thirds.{third-fact}
use Rattle.upgrade.proofs.Takes.{take, Take, junk-row, rest-laid, past-junk, data-in, fmt-in, own_row, own-size, not-ds64, low-beside, fact-kept, name-beside, own-beside, payload-beside, form-whole, fact-has, fits}
use Rattle.upgrade.proofs.Renamed.{target-named, target-wide, head_in, ds64_row, now-data, now-other, new_rows, new-same, new-chunked, split}

module _ (t : Target) (s : List ℕ) (h : Head) (j : Entry) (rest : List Entry) (f : Format) where
  abbrev old : Scan
  old = take h j rest f

  abbrev u : List ℕ
  u = patched (patches t old s) s

  abbrev rule : Rule
  rule = true_size (head_in t u) (entries_of (head_in t u) u)

  abbrev new : Scan
  new = record { head = head_in t u; rows = new_rows j rest; format = f }

  abbrev Judged : Type 0
  Judged = judged (payload (find FMT (j ∷ rest)) s) (find DATA (j ∷ rest)).size ≡ Ok f

  module _ (k : Take s h j rest) (scanned : scan s ≡ Ok old) (judge : Judged) where
    long : length u ≡ length s
    long = patched-length (patches t old s) s

    stored : Holds t s old u
    stored = holds t s old ((form-whole s h j rest k).0 ∙ omega (arith, (form-whole s h j rest k).1)) (fits s h j rest k t f)

    -- each later header by the new rule
    shown : (e : Entry) → Memᴰ e rest → Shown rule u (marked e)
    unfolding ds64_at
    shown e m =
        let l = laid-lies (rest-laid s h j rest k) m in
        record {
          named = number-beside t old s 4 (e.place - 8) (name-beside s h j rest k t f e m) ∙ l.named;
          sized = go (eqb e.name DATA) refl;
        }
      where
        found : e.name ≡ DATA → e ≡ find DATA (j ∷ rest)
        found q =
            let p = past-junk s h j rest k DATA (λ r. omega arith) in
            only DATA rest e (omega (arith, p.0, k.listed.chunked.one_data)) m q ∙ sym p.1

        go : (b : Bool) → eqb e.name DATA ≡ b → rule (e.place - 8) e.name (number 4 (e.place - 4) u) ≡ Ok (row-size (marked e))
        go true q =
            let name = eqb-true e.name DATA q in
            let own = ap (λ (x : Entry). number 4 (x.place - 4) u) (found name) ∙ stored.data_field in
            ap₂ (rule (e.place - 8)) name own
            ∙ true-data (head_in t u) (entries_of (head_in t u) u) (e.place - 8) (target-wide t)
            ∙ ap₂ (λ (n : ℕ) (x : Source). Ok (record { bytes = n; source = x }))
            (stored.data_size ∙ sym (ap (λ (x : Entry). x.size) (found name))) (sym (now-data e name))
        go false q =
            let name = eqb-false e.name DATA q in
            let own = number-beside t old s 4 (e.place - 4) (own-beside s h j rest k t f e m name) in
            let size = own_row s h j rest k e m in
            ap (rule (e.place - 8) e.name) own
            ∙ true-own (head_in t u) (entries_of (head_in t u) u) (e.place - 8) e.name (number 4 (e.place - 4) s)
            (not-ds64 s h j rest k e m) size.0
            ∙ ap Ok (sym size.1)
            ∙ ap (λ (x : Source). Ok (record { bytes = e.size; source = x })) (sym (now-other e name))

    junk-own : number 4 16 u ≡ number 4 16 s
    junk-own = number-beside t old s 4 16 (low-beside s h j rest k t f 4 16 (lit≤ tt) (lit≤ tt) (inr (lit≤ tt)))

    -- JUNK's own field is its size, and not all ones
    junk-own-row : (number 4 16 s ≡ ONES → ⊥) × (row-size j ≡ field_size (number 4 16 s))
    junk-own-row =
        let r = (junk-row s h j rest k).sized in
        let n = riff-own h (entries_of h s) 12 j.name (number 4 16 s) _ r k.riff in
        (n, own_is h (entries_of h s) 12 j.name (number 4 16 s) _ r n)

    junk-size : (number 4 16 s ≡ ONES → ⊥) × (j.size ≡ number 4 16 s)
    junk-size = (junk-own-row.0, ap (λ (x : TrueSize). x.bytes) junk-own-row.1)

    first-row : Row rule u 12 (marked (ds64_row j))
    unfolding past
    first-row =
        let r = junk-row s h j rest k in
        record {
          place = r.place;
          named = stored.name;
          sized = ap (rule 12 DS64) junk-own
              ∙ true-ds64 (head_in t u) (entries_of (head_in t u) u) (number 4 16 s) (target-wide t) junk-size.0
              ∙ ap Ok (sym junk-own-row.1)
              ∙ ap (λ (x : Source). Ok (record { bytes = j.size; source = x })) (sym (now-other (ds64_row j) (λ p. omega (arith, p))));
          ends = rw long r.ends;
        }

    laid : Laid rule u 12 (new_rows j rest)
    unfolding past
    laid = next first-row (relaid-as marked rule u (λ e. (refl, refl)) long shown (rest-laid s h j rest k))

    opened : Opened u (head_in t u)
    unfolding ds64_at past
    opened =
        let o = k.listed.opened in
        let r = junk-row s h j rest k in
        let whole = form-whole s h j rest k in
        let size : form_size (head_in t u) (number 4 4 u) ≡ length s - 8 =
        ap (form_size (head_in t u)) stored.form_field ∙ form-ones (head_in t u) ∙ stored.form_size in
        record {
          long = rw long o.long;
          named = stored.form_name ∙ target-named t;
          wave = number-beside t old s 4 8 (low-beside s h j rest k t f 4 8 (lit≤ tt) (lit≤ tt) (inl (lit≤ tt))) ∙ o.wave;
          head = head-wide (target_form t) u (target-wide t)
              (rules-ds64 (length u) (number 4 12 u) (number 4 16 u) (number 4 44 u)
              (record {
                named = stored.name;
                sized = λ p. junk-size.0 (sym junk-own ∙ p);
                holds = omega (arith, stored.entries, junk-own, junk-size.1, k.holds);
                few = omega (arith, stored.entries);
                ends = omega (arith, junk-own, junk-size.1, r.ends, r.place, long);
              }));
          whole = omega (arith, size, long, o.long);
          least = omega (arith, size, o.least, whole.0, whole.1);
        }

    -- a chunk other than fact keeps its payload
    kept : (e : Entry) → Memᴰ e rest → (e.name ≡ FACT → ⊥) → payload e u ≡ payload e s
    unfolding payload
    kept e m n = field-beside t old s e.size e.place (payload-beside s h j rest k t f e m n)

    same-find : (name : ℕ) → (JUNK ≡ name → ⊥) → (DS64 ≡ name → ⊥) → find name new.rows ≡ marked (find name (j ∷ rest))
    same-find name p q = (new-same name j rest k.junk p q).1

    same-data : find DATA new.rows ≡ marked (find DATA (j ∷ rest))
    same-data = same-find DATA (λ p. omega arith) (λ p. omega arith)

    audio : payload (find DATA new.rows) u ≡ payload (find DATA (j ∷ rest)) s
    unfolding payload
    audio =
        let d = data-in s h j rest k in
        ap (λ (e : Entry). payload e u) same-data ∙ kept (find DATA (j ∷ rest)) d.0 (λ p. omega (arith, d.1))

    fmt-kept : payload (find FMT new.rows) u ≡ payload (find FMT (j ∷ rest)) s
    unfolding payload
    fmt-kept =
        let m = fmt-in s h j rest k in
        ap (λ (e : Entry). payload e u) (same-find FMT (λ p. omega arith) (λ p. omega arith))
        ∙ kept (find FMT (j ∷ rest)) m.0 (λ p. omega (arith, m.1))

    accepted : scan u ≡ Ok new
    accepted =
        scanned-scan u new
        (record {
          listed = record {
            opened = opened;
            laid = laid;
            few = omega (arith, length-map (ds64_row j ∷ rest) marked, k.listed.few);
            chunked = new-chunked j rest k.junk k.listed.chunked;
          };
          format = ap₂ judged fmt-kept (ap (λ (e : Entry). e.size) same-data) ∙ judge;
        })

    -- ---- the sample count

    same_count : count FACT new.rows ≡ count FACT (j ∷ rest)
    same_count = (new-same FACT j rest k.junk (λ p. omega arith) (λ p. omega arith)).0

    same-fact : find FACT new.rows ≡ marked (find FACT (j ∷ rest))
    same-fact = same-find FACT (λ p. omega arith) (λ p. omega arith)

    abbrev factNow : ℕ
    factNow = number 4 (find FACT (j ∷ rest)).place u

    abbrev factThen : ℕ
    factThen = number 4 (find FACT (j ∷ rest)).place s

    count_same : (count FACT (j ∷ rest) ≡ 0 → ⊥)
        → fact_count (target_form t) (ds64_at u).third (number 4 (find FACT new.rows).place u) ≡ factThen
    unfolding ds64_at target_form
    count_same n =
        ap (λ (e : Entry). fact_count (target_form t) (number 8 36 u) (number 4 e.place u)) same-fact
        ∙ go t refl
      where
        has : has_fact old ≡ true
        has = fact-has s h j rest k f n

        go : (x : Target) → t ≡ x → fact_count (target_form x) (number 8 36 u) factNow ≡ factThen
        go target.Rf64 p =
            fact-third (number 8 36 u) factNow (stored.fact p has)
            ∙ stored.third
            ∙ ap (λ (x : Target). third_for x old s) p
            ∙ third-fact old s has
        go target.Bw64 p =
            fact-bw64 (number 8 36 u) factNow
            ∙ number-beside t old s 4 (find FACT (j ∷ rest)).place
            (subst (λ (x : Target). Beside 4 (find FACT (j ∷ rest)).place (changed x old)) (sym p) (fact-kept s h j rest k f n))

    was : fact_count h.form h.ds64.third factThen ≡ factThen
    was = ap (λ (x : Form). fact_count x h.ds64.third factThen) k.riff ∙ fact-riff h.ds64.third factThen

    samples-same : samples_of u ≡ samples_of s
    samples-same =
        samples-given u new accepted
        ∙ ap Ok (go (eqb (count FACT (j ∷ rest)) 0) refl)
        ∙ sym (samples-given s old scanned)
      where
        go : (b : Bool) → eqb (count FACT (j ∷ rest)) 0 ≡ b → samples_in new u ≡ samples_in old s
        go true e =
            let z = eqb-true (count FACT (j ∷ rest)) 0 e in
            samples-none new u (same_count ∙ z) ∙ sym (samples-none old s z)
        go false e =
            let n = eqb-false (count FACT (j ∷ rest)) 0 e in
            samples-fact new u (λ z. n (sym same_count ∙ z))
            ∙ ap Some (count_same n ∙ sym was)
            ∙ sym (samples-fact old s n)

    -- ---- the 32-bit walk

    -- no field ahead of data is all ones
    sized : (e : Entry) → Memᴰ e (ds64_row j ∷ rest) → (e.name ≡ DATA → ⊥) → own_field u e ≡ ONES → ⊥
    unfolding own_field
    sized e m n = go (Memᴰ.cases_cons m)
      where
        go : (e ≡ ds64_row j) ⊎ Memᴰ e rest → own_field u e ≡ ONES → ⊥
        go (inl q) o =
            let at : e.place - 4 ≡ 16 = omega (arith, ap (λ (x : Entry). x.place) q, (junk-row s h j rest k).place) in
            junk-size.0 (sym junk-own ∙ sym (ap (λ (x : ℕ). number 4 x u) at) ∙ o)
        go (inr l) o =
            (own-size s h j rest k e l).0
            (sym (number-beside t old s 4 (e.place - 4) (own-beside s h j rest k t f e l n)) ∙ o)

    -- a new row has the name and the place of an old one
    new-sized : (e : Entry) → Memᴰ e new.rows → (e.name ≡ DATA → ⊥) → own_field u e ≡ ONES → ⊥
    unfolding own_field
    new-sized e m n o =
        let x = Memᴰ.of_map marked (ds64_row j ∷ rest) m in
        sized x.0 x.1 (λ p. n (sym (ap (λ (y : Entry). y.name) x.2) ∙ p)) (ap (λ (y : Entry). number 4 (y.place - 4) u) x.2 ∙ o)

    stops : walk32 u ≡ record { rows = ahead_of DATA new.rows; end = Err UnknownSize }
    unfolding Sized own_field
    stops =
        let c = new-chunked j rest k.junk k.listed.chunked in
        let p = split DATA new.rows (omega (arith, c.one_data)) in
        (first-half u new accepted).stops (ahead_of DATA new.rows) (find DATA new.rows) p.behind p.is
        (λ e m. new-sized e (p.others e m).0 (p.others e m).1)
        (ap (λ (e : Entry). number 4 (e.place - 4) u) same-data ∙ stored.data_field)

    pub take-upgraded : Upgraded t s old u
    unfolding renamed
    take-upgraded =
        record {
          bytes = refl;
          long = long;
          fields = stored;
          others = byte-beside t old s;
          again = new;
          accepted = accepted;
          rows = refl;
          form = refl;
          format = refl;
          audio = audio;
          samples = samples-same;
          walk = stops;
        }
