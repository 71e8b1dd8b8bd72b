-- A RIFF take with its reserve: where its chunks lie from the fields that the upgrade changes. The rows are laid, so two of
-- them are one or apart, and only fact's first bytes and data's own field are touched past the reserve.
-- Assumes nothing.
use mathlib.Core.Path.{◌≡◌, refl, sym, ◌∙◌, ap, subst}
use mathlib.Core.Bool.{Bool, true, false, not}
use mathlib.Core.Logic.{inl, inr}
use mathlib.Core.List.Memᴰ
use mathlib.Core.List.{List, ◌∷◌, Memᴰ}
use Prim.Native.Nat.{ℕ, ◌+◌, ◌-◌, ◌^◌, ◌≤◌, ◌<◌}
use native.Mathlib.Nat.{div-le_self}
use native.Mathlib.Omega.{arith}
use lib.ListN.{length}
use lib.Dec.{eqb}
use borrow.Author.Tests.{ne_eqb, eqb-false, not-true}
use Rattle.le.specs.Number.{Bytes, number}
use Rattle.le.proofs.Laws.{number_bound}
use Rattle.chunk.specs.declared.Entry.{Entry}
use Rattle.chunk.specs.declared.TrueSize.{TrueSize}
use Rattle.chunk.specs.Names.{DS64, JUNK, FMT, FACT, DATA}
use Rattle.chunk.specs.Fields.{ONES}
use Rattle.chunk.specs.Refusals.{Ok}
use Rattle.chunk.specs.Tables.{count, find}
use Rattle.chunk.specs.Walks.{Rule, field_size, past}
use Rattle.chunk.proofs.Checks.{picked}
use Rattle.chunk.proofs.Laid.{row-size, Row, Laid, next, laid-lies, Apart, same, before, after, laid-apart}
use Rattle.chunk.proofs.Finds.{First, hit, miss, first, found}
use Rattle.form.specs.declared.Form.{Form}
use Rattle.form.specs.declared.Form.TheVariants.{Riff}
use Rattle.form.specs.declared.Head.{Head}
use Rattle.form.specs.Forms.{head_as, form_size, LEAST}
use Rattle.form.proofs.Heads.{riff-head, form-own}
use Rattle.truesize.specs.Sizes.{true_size, entries_of}
use Rattle.truesize.proofs.Sizes.{own_is, ds64-first, riff-own}
use Rattle.fmt.specs.declared.Format.{Format}
use Rattle.wave.specs.Scans.{Scan}
use Rattle.listing.proofs.Checked.{Checked}
use Rattle.upgrade.specs.declared.Target.{Target}
use Rattle.upgrade.specs.declared.Target.TheVariants as target
use Rattle.upgrade.specs.Upgrades.{has_fact, frames, third_for}
use Rattle.upgrade.specs.Demand3.{Off, span, fact_span, changed, Beside}
use Rattle.upgrade.proofs.Stores.{Fits}
use Rattle.upgrade.proofs.Thirds.{third-fact, third-frames, third_zero}

-- ---- the head of a table

-- a name that the first chunk doesn't have is counted and found past it
pub skipped : (name : ℕ) (e : Entry) (es : List Entry) → (e.name ≡ name → ⊥)
    → (count name (e ∷ es) ≡ count name es) × (find name (e ∷ es) ≡ find name es)
skipped name e es h = go (first name e es)
  where
    go : First name e es → (count name (e ∷ es) ≡ count name es) × (find name (e ∷ es) ≡ find name es)
    go (hit p c f) = absurd (h p)
    go (miss p c f) = (c, f)

laid_cons : {rule : Rule} {s : List ℕ} {at : ℕ} {e : Entry} {es : List Entry} → Laid rule s at (e ∷ es)
    → Row rule s at e × Laid rule s (past e) es
laid_cons (next r l) = (r, l)

-- ---- a take

abbrev pub take : Head → Entry → List Entry → Format → Scan
take h j rest f = record { head = h; rows = j ∷ rest; format = f }

-- the take has a fact
abbrev Fact : Entry → List Entry → Type 0
Fact j rest = count FACT (j ∷ rest) ≡ 0 → ⊥

-- the n bytes at a place lie off data's own field, and off fact's first four bytes
abbrev OffData : Entry → List Entry → ℕ → ℕ → Type 0
OffData j rest n at = Off n at 4 ((find DATA (j ∷ rest)).place - 4)

abbrev OffFact : Entry → List Entry → ℕ → ℕ → Type 0
OffFact j rest n at = Off n at 4 (find FACT (j ∷ rest)).place

pub record Take (s : List ℕ) (h : Head) (j : Entry) (rest : List Entry) : Type 0 where
  pub bytes : Bytes s
  pub riff : h.form ≡ Riff
  pub listed : Checked s (record { head = h; rows = j ∷ rest })
  pub junk : j.name ≡ JUNK
  pub holds : LEAST ≤ j.size

module _ (s : List ℕ) (h : Head) (j : Entry) (rest : List Entry) (k : Take s h j rest) where
  pub junk-row : Row (true_size h (entries_of h s)) s 12 j
  junk-row = (laid_cons k.listed.laid).0

  pub rest-laid : Laid (true_size h (entries_of h s)) s (past j) rest
  rest-laid = (laid_cons k.listed.laid).1

  -- the reserve ends past byte 48
  pub far : (e : Entry) → Memᴰ e rest → 56 ≤ e.place
  unfolding past
  far e m = omega (arith, (laid-lies rest-laid m).after, junk-row.place, k.holds)

  -- the first chunk is JUNK, so every other name is found past it
  pub past-junk : (name : ℕ) → (JUNK ≡ name → ⊥)
      → (count name (j ∷ rest) ≡ count name rest) × (find name (j ∷ rest) ≡ find name rest)
  past-junk name n = skipped name j rest (λ p. n (sym k.junk ∙ p))

  pub in_rest : (name : ℕ) → (JUNK ≡ name → ⊥) → 1 ≤ count name (j ∷ rest)
      → Memᴰ (find name (j ∷ rest)) rest × ((find name (j ∷ rest)).name ≡ name)
  in_rest name n c =
      let p = past-junk name n in
      let m = found name rest (omega (arith, p.0)) in
      (Memᴰ.cast p.1 m.mem, ap (λ (e : Entry). e.name) p.1 ∙ m.named)

  pub data-in : Memᴰ (find DATA (j ∷ rest)) rest × ((find DATA (j ∷ rest)).name ≡ DATA)
  data-in = in_rest DATA (λ p. omega arith) (omega (arith, k.listed.chunked.one_data))

  pub fmt-in : Memᴰ (find FMT (j ∷ rest)) rest × ((find FMT (j ∷ rest)).name ≡ FMT)
  fmt-in = in_rest FMT (λ p. omega arith) (omega (arith, k.listed.chunked.one_fmt))

  pub fact-in : Fact j rest → Memᴰ (find FACT (j ∷ rest)) rest × ((find FACT (j ∷ rest)).name ≡ FACT)
  fact-in n = in_rest FACT (λ p. omega arith) (omega (arith, n))

  -- in RIFF the own field is the size, and not all ones
  pub own_row : (e : Entry) → Memᴰ e rest → (number 4 (e.place - 4) s ≡ ONES → ⊥) × (row-size e ≡ field_size (number 4 (e.place - 4) s))
  own_row e m =
      let l = (laid-lies rest-laid m).sized in
      let n = riff-own h (entries_of h s) (e.place - 8) e.name (number 4 (e.place - 4) s) _ l k.riff in
      (n, own_is h (entries_of h s) (e.place - 8) e.name (number 4 (e.place - 4) s) _ l n)

  pub own-size : (e : Entry) → Memᴰ e rest → (number 4 (e.place - 4) s ≡ ONES → ⊥) × (e.size ≡ number 4 (e.place - 4) s)
  own-size e m = let r = own_row e m in (r.0, ap (λ (t : TrueSize). t.bytes) r.1)

  pub not-ds64 : (e : Entry) → Memᴰ e rest → e.name ≡ DS64 → ⊥
  not-ds64 e m p =
      omega (
        arith,
        far e m,
        (ds64-first h (entries_of h s) (e.place - 8) e.name (number 4 (e.place - 4) s) _ (laid-lies rest-laid m).sized p).1,
      )

  -- fact and data are apart
  fact-apart : Fact j rest → OffData j rest 4 (find FACT (j ∷ rest)).place
  unfolding past
  fact-apart c = go (laid-apart rest-laid (fact-in c).0 data-in.0)
    where
      go : Apart (find FACT (j ∷ rest)) (find DATA (j ∷ rest)) → OffData j rest 4 (find FACT (j ∷ rest)).place
      go (same p) = absurd (omega (arith, (fact-in c).1, data-in.1, ap (λ (x : Entry). x.name) p))
      go (before p) = inl (omega (arith, k.listed.chunked.fact_holds c))
      go (after p) = inr (omega (arith, far _ data-in.0))

  -- ---- beside the changed fields

  module _ (t : Target) (f : Format) (n at : ℕ) where
    fact-beside : (Fact j rest → OffFact j rest n at) → Beside n at (fact_span t (take h j rest f))
    unfolding fact_span Beside span has_fact
    fact-beside g = go t
      where
        go : (x : Target) → Beside n at (fact_span x (take h j rest f))
        go target.Bw64 = tt
        go target.Rf64 =
            picked (Beside n at) (not (eqb (count FACT (j ∷ rest)) 0)) _ _
            (λ e. (g (eqb-false (count FACT (j ∷ rest)) 0 (not-true _ e)), tt)) (λ _. tt)

    -- past the reserve only data's field and fact are changed
    beside : 48 ≤ at → OffData j rest n at → Beside n at (fact_span t (take h j rest f)) → Beside n at (changed t (take h j rest f))
    unfolding changed Beside span
    beside l d g = (inr (omega arith), (inr (omega arith), (inr (omega arith), (inr (omega arith), (d, g)))))

    -- WAVE and JUNK's own size lie between the fields ahead of it
    pub low-beside : 8 ≤ at → at + n ≤ 20 → Off n at 4 12 → Beside n at (changed t (take h j rest f))
    unfolding changed Beside span
    low-beside p q r =
        let d : OffData j rest n at = inl (omega (arith, far _ data-in.0)) in
        let g = fact-beside (λ c. inl (omega (arith, far _ (fact-in c).0))) in
        (inr (omega arith), (inr (omega arith), (r, (inl q, (d, g)))))

  -- for BW64 fact lies beside them
  pub fact-kept : (f : Format) → Fact j rest → Beside 4 (find FACT (j ∷ rest)).place (changed target.Bw64 (take h j rest f))
  unfolding fact_span Beside
  fact-kept f c = beside target.Bw64 f 4 (find FACT (j ∷ rest)).place (omega (arith, far _ (fact-in c).0)) (fact-apart c) tt

  module _ (t : Target) (f : Format) (e : Entry) (m : Memᴰ e rest) where
    -- bytes of a chunk, from its header to its pad, lie off the fields of every other chunk
    within : (n at : ℕ) → e.place - 8 ≤ at → at + n ≤ past e → (e ≡ find DATA (j ∷ rest) → OffData j rest n at)
        → (Fact j rest → e ≡ find FACT (j ∷ rest) → OffFact j rest n at) → Beside n at (changed t (take h j rest f))
    unfolding past
    within n at from to is-data is-fact =
        beside t f n at (omega (arith, far e m)) (side-data (laid-apart rest-laid m data-in.0))
        (fact-beside t f n at (λ c. side-fact c (laid-apart rest-laid m (fact-in c).0)))
      where
        side-data : Apart e (find DATA (j ∷ rest)) → OffData j rest n at
        side-data (same p) = is-data p
        side-data (before p) = inl (omega arith)
        side-data (after p) = inr (omega (arith, far _ data-in.0))

        side-fact : Fact j rest → Apart e (find FACT (j ∷ rest)) → OffFact j rest n at
        side-fact c (same p) = is-fact c p
        side-fact c (before p) = inl (omega arith)
        side-fact c (after p) = inr (omega (arith, k.listed.chunked.fact_holds c))

    at_same : (g : Entry) → e ≡ g → e.place ≡ g.place
    at_same g p = ap (λ (x : Entry). x.place) p

    pub name-beside : Beside 4 (e.place - 8) (changed t (take h j rest f))
    unfolding past
    name-beside =
        within 4 (e.place - 8) (omega arith) (omega (arith, far e m))
        (λ p. inl (omega (arith, far e m, at_same _ p)))
        (λ c p. inl (omega (arith, far e m, at_same _ p)))

    pub own-beside : (e.name ≡ DATA → ⊥) → Beside 4 (e.place - 4) (changed t (take h j rest f))
    unfolding past
    own-beside o =
        within 4 (e.place - 4) (omega arith) (omega (arith, far e m))
        (λ p. absurd (o (ap (λ (x : Entry). x.name) p ∙ data-in.1)))
        (λ c p. inl (omega (arith, far e m, at_same _ p)))

    pub payload-beside : (e.name ≡ FACT → ⊥) → Beside e.size e.place (changed t (take h j rest f))
    unfolding past
    payload-beside o =
        within e.size e.place (omega arith) (omega arith)
        (λ p. inr (omega (arith, far e m, at_same _ p)))
        (λ c p. absurd (o (ap (λ (x : Entry). x.name) p ∙ (fact-in c).1)))

  -- ---- the fields fit

  -- RIFF's form field is the form size
  pub form-whole : (form_size h (number 4 4 s) ≡ number 4 4 s) × (8 + number 4 4 s ≡ length s)
  form-whole =
      let o = k.listed.opened in
      let n = (riff-head s h (subst (λ (x : Form). head_as x s ≡ Ok h) k.riff o.head)).0 in
      let p = form-own h (number 4 4 s) n in
      (p, ap (λ (x : ℕ). 8 + x) (sym p) ∙ o.whole)

  data-bound : (find DATA (j ∷ rest)).size < 256 ^ 4
  data-bound = omega (arith, (own-size _ data-in.0).1, number_bound 4 ((find DATA (j ∷ rest)).place - 4) s k.bytes)

  third-bound : (t : Target) (f : Format) → third_for t (take h j rest f) s < 256 ^ 8
  unfolding frames
  third-bound target.Bw64 f = omega (arith, third_zero (take h j rest f) s)
  third-bound target.Rf64 f = go (has_fact (take h j rest f)) refl
    where
      go : (b : Bool) → has_fact (take h j rest f) ≡ b → third_for target.Rf64 (take h j rest f) s < 256 ^ 8
      go true e = omega (arith, third-fact (take h j rest f) s e, number_bound 4 (find FACT (j ∷ rest)).place s k.bytes)
      go false e =
          omega (arith, third-frames (take h j rest f) s e, data-bound, div-le_self (find DATA (j ∷ rest)).size f.block)

  pub has-fact : (f : Format) → has_fact (take h j rest f) ≡ true → Fact j rest
  unfolding has_fact
  has-fact f e = eqb-false (count FACT (j ∷ rest)) 0 (not-true _ e)

  pub fact-has : (f : Format) → Fact j rest → has_fact (take h j rest f) ≡ true
  unfolding has_fact
  fact-has f n = ap not (ne_eqb (count FACT (j ∷ rest)) 0 n)

  pub fits : (t : Target) (f : Format) → Fits t s (take h j rest f)
  unfolding past
  fits t f =
      record {
        data_from = far _ data-in.0;
        data_to = omega (arith, (laid-lies rest-laid data-in.0).ends);
        fact_from = λ e. far _ (fact-in (has-fact f e)).0;
        fact_to = λ e.
            omega (arith, (laid-lies rest-laid (fact-in (has-fact f e)).0).ends, k.listed.chunked.fact_holds (has-fact f e));
        fact_apart = λ e. fact-apart (has-fact f e);
        form_fits = omega (arith, number_bound 4 4 s k.bytes, form-whole.0);
        data_fits = omega (arith, data-bound);
        third_fits = third-bound t f;
      }
