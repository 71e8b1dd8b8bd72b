-- The code's stores are the document's, and what the code reads of a file is what the scan knows of it.
-- Assumes nothing.
use mathlib.Core.Path.{◌≡◌, refl, sym, ap, ◌∙◌, subst}
use mathlib.Core.Bool.{Bool, true, false, not, ◌&&◌}
use mathlib.Core.List.{List, [], ◌∷◌, ◌++◌}
use Prim.Native.Nat.{ℕ, ◌+◌, ◌-◌, ◌%◌, ◌≤◌}
use native.Mathlib.Omega.{arith}
use lib.ListN.{length}
use Rattle.std.specs.Prelude.{Option, None, Some}
use lib.Dec.{eqb, leb}
use Rattle.le.specs.Number.{number, stored}
use Rattle.chunk.specs.declared.Entry.{Entry}
use Rattle.chunk.specs.Code.{header_of}
use Rattle.le.specs.Choice.{pick}
use Rattle.chunk.specs.declared.Refusal.{Refusal}
use Rattle.chunk.specs.declared.Refusal.TheVariants.{RaggedAudio, Already64, NoReserve}
use Rattle.chunk.specs.Refusals.{Err, Ok, verdict_of}
use Rattle.chunk.specs.Names.{DS64, JUNK, FMT, FACT, DATA}
use Rattle.chunk.specs.Fields.{ONES}
use Rattle.chunk.specs.Tables.{count, find}
use Rattle.chunk.specs.Walks.{past}
use Rattle.chunk.proofs.Checks.{picked, check-given, given-inj, and_then-given}
use Rattle.chunk.proofs.Laid.{Laid, done, next, laid-lies}
use Rattle.chunk.proofs.Finds.{found}
use Rattle.form.specs.declared.Ds64.{Ds64}
use Rattle.form.specs.declared.Form.{Form}
use Rattle.form.specs.declared.Form.TheVariants.{Riff}
use Rattle.form.specs.declared.Head.{Head}
use Rattle.form.specs.Forms.{is_wide, form_size, LEAST}
use Rattle.form.specs.Code.{place_of}
use Rattle.truesize.specs.Sizes.{true_size, entries_of}
use Rattle.truesize.proofs.Sizes.{own-true, riff-own}
use Rattle.fmt.specs.declared.Format.{Format}
use Rattle.fmt.specs.Formats.{format_in}
use Rattle.fmt.proofs.Laws.{block-least}
use Rattle.wave.specs.declared.judgement.Accepted.{Accepted}
use Rattle.wave.specs.Scans.{Scan, scan, payload, judged, whole_blocks}
use Rattle.listing.specs.Code.{payload_of, fact_in}
use Rattle.wave.specs.Code.{accepted_of}
use Rattle.wave.proofs.Again.{narrow-riff}
use Rattle.wave.proofs.Judgements.{fact-at}
use Rattle.wave.proofs.Scanned.{scan-scanned}
use Rattle.upgrade.specs.declared.Reserve.{Reserve}
use Rattle.upgrade.specs.declared.Changes.{Changes}
use Rattle.upgrade.specs.declared.Target.{Target}
use Rattle.upgrade.specs.declared.Target.TheVariants.{Rf64, Bw64}
use Rattle.upgrade.specs.Upgrades.{Patch, patch, halves, has_fact, frames, third_for, fact_patch, patches, patched, reserved, upgraded}
use Rattle.upgrade.specs.Demand3.{Reserved}
use Rattle.upgrade.specs.Words.{file_after, UpgradeDone}
use Rattle.upgrade.specs.Code.{Knows, Inside, reserve_as, third_as, third_of, fact_moved, changes_of, ds64_stores, fact_store, field_stores, stores}
use Rattle.upgrade.proofs.Patches.{patched-append, halves-stored}
use Rattle.upgrade.proofs.Outcomes.{reserved-true, upgrade_refused, upgrade-wide, upgrade-unreserved, upgrade-given}

-- ---- the stores

pub ds64-made : (d : Ds64) (s : List ℕ)
    → patched (ds64_stores d) s
    ≡ stored 4 12 DS64 (stored 4 44 d.count (stored 8 36 d.third (stored 8 28 d.data_size (stored 8 20 d.form_size s))))
unfolding ds64_stores patched patch
ds64-made d s =
    patched-append (halves 20 d.form_size ++ halves 28 d.data_size ++ halves 36 d.third) (patch 44 d.count ∷ patch 12 DS64 ∷ []) s
    ∙ ap (λ (l : List ℕ). stored 4 12 DS64 (stored 4 44 d.count l))
    (patched-append (halves 20 d.form_size ++ halves 28 d.data_size) (halves 36 d.third) s
    ∙ halves-stored 36 d.third _
    ∙ ap (stored 8 36 d.third)
    (patched-append (halves 20 d.form_size) (halves 28 d.data_size) s
    ∙ halves-stored 28 d.data_size _
    ∙ ap (stored 8 28 d.data_size) (halves-stored 20 d.form_size s)))

-- the three groups of stores, one after the other
pub stores-made : (w : Changes) (s x y z : List ℕ)
    → x ≡ stored 4 12 DS64 (stored 4 44 w.ds64.count (stored 8 36 w.ds64.third (stored 8 28 w.ds64.data_size (stored 8 20 w.ds64.form_size s))))
    → y ≡ patched (fact_store w.fact) x
    → z ≡ stored 4 0 w.name (stored 4 4 ONES (stored 4 w.data_field ONES y))
    → z ≡ patched (stores w) s
unfolding stores field_stores patched patch
stores-made w s x y z dx dy dz =
    dz
    ∙ ap (patched (field_stores w.data_field w.name)) (dy ∙ ap (patched (fact_store w.fact)) (dx ∙ sym (ds64-made w.ds64 s)))
    ∙ sym
    (patched-append (ds64_stores w.ds64 ++ fact_store w.fact) _ s
    ∙ ap (patched (field_stores w.data_field w.name)) (patched-append (ds64_stores w.ds64) (fact_store w.fact) s))

-- ---- what is known of an accepted file

module _ (s : List ℕ) (a : Scan) (e : scan s ≡ Ok a) where
  third-same : (t : Target) → third_of t (accepted_of s a) s ≡ third_for t a s
  unfolding third_of third_for third_as accepted_of payload_of fact_in frames has_fact
  third-same Rf64 = go (eqb (count FACT a.rows) 0)
    where
      go : (b : Bool) → third_as (pick b None (Some (find FACT a.rows).place)) (accepted_of s a) s
          ≡ pick (not b) (number 4 (find FACT a.rows).place s) (frames a)
      go true = refl
      go false = refl
  third-same Bw64 = refl

  fact-same : (t : Target) → fact_store (fact_moved t (fact_in a.rows)) ≡ fact_patch t a
  unfolding fact_store fact_moved fact_patch fact_in has_fact
  fact-same Rf64 = go (eqb (count FACT a.rows) 0)
    where
      go : (b : Bool) → fact_store (pick b None (Some (find FACT a.rows).place)) ≡ pick (not b) (patch (find FACT a.rows).place ONES ∷ []) []
      go true = refl
      go false = refl
  fact-same Bw64 = refl

  -- the form size is what the file has past the form's first 8 bytes
  whole-size : length s - 8 ≡ form_size a.head (number 4 4 s)
  whole-size = let o = (scan-scanned s a e).listed.opened in omega (arith, o.whole)

  pub stores-same : (t : Target) → stores (changes_of t (accepted_of s a) s) ≡ patches t a s
  unfolding stores changes_of patches ds64_stores field_stores accepted_of payload_of
  stores-same t = rw (whole-size, fact-same t, third-same t)

  -- the first chunk of a RIFF file, from its header
  pub record First : Type 0 where
    pub row : Entry
    pub rest : List Entry
    pub rows : a.rows ≡ row ∷ rest
    pub named : row.name ≡ number 4 12 s
    pub sized : row.size ≡ number 4 16 s
    pub ends : 20 + row.size ≤ length s

  pub first-row : a.head.form ≡ Riff → First
  unfolding past count
  first-row r = go a.rows refl (scan-scanned s a e).listed.laid
    where
      go : (rows : List Entry) → a.rows ≡ rows → Laid (true_size a.head (entries_of a.head s)) s 12 rows → First
      go [] q (done h) = absurd (omega (arith, ap (count FMT) q, (scan-scanned s a e).listed.chunked.one_fmt))
      go (x ∷ xs) q (next w l) =
          record {
            row = x;
            rest = xs;
            rows = q;
            named = sym w.named;
            sized = own-true _ _ _ _ _ _ w.sized (riff-own _ _ _ _ _ _ w.sized r);
            ends = omega (arith, w.place, w.ends);
          }

-- ---- the entry's promise

-- a refusal leaves the file as it was
done-refused : (t : Target) (s : List ℕ) (r : Refusal) → upgraded t s ≡ Err r → UpgradeDone t s (Err r) s
unfolding verdict_of file_after
done-refused t s r q = record { verdict = sym (ap verdict_of q); bytes = sym (ap (file_after s) q) }

pub done-scan : (t : Target) (s : List ℕ) (r : Refusal) → scan s ≡ Err r → UpgradeDone t s (Err r) s
done-scan t s r e = done-refused t s r (upgrade_refused t s r e)

-- where fact's count is that moves
moved : (t : Target) (m : Option ℕ) (p : ℕ) → fact_moved t m ≡ Some p → m ≡ Some p
unfolding fact_moved
moved Rf64 m p e = e
moved Bw64 m p e = cc

-- ---- what the code knows of one

module _ (s : List ℕ) (k : Accepted) (w : Knows s k) where
  abbrev a : Scan
  a = w.scanned

  -- the block is at least 1
  pub known-block : 1 ≤ k.format.block
  unfolding judged whole_blocks accepted_of
  known-block =
      let j = and_then-given (format_in (payload (find FMT a.rows) s)) _ a.format (scan-scanned s a w.is).format in
      let c = check-given (eqb ((find DATA a.rows).size % j.0.block) 0) RaggedAudio (Ok j.0) a.format j.2 in
      subst (λ (x : Accepted). 1 ≤ x.format.block) (sym w.known)
      (subst (λ (f : Format). 1 ≤ f.block) (given-inj j.0 a.format c.1) (block-least _ j.0 j.1))

  -- fact's first 4 bytes lie in the file
  pub fact-within : (p : ℕ) → k.fact ≡ Some p → p + 4 ≤ length s
  unfolding accepted_of
  fact-within p q = (fact-at s a p w.is (sym (ap (λ (x : Accepted). x.fact) w.known) ∙ q)).inside

  -- and so does data's size field
  pub data-within : (4 ≤ k.audio.place) × (k.audio.place ≤ length s)
  unfolding accepted_of payload_of past
  data-within =
      let l = (scan-scanned s a w.is).listed in
      let y = laid-lies l.laid (found DATA a.rows (omega (arith, l.chunked.one_data))).mem in
      let p : k.audio.place ≡ (find DATA a.rows).place = ap (λ (x : Accepted). x.audio.place) w.known in
      (omega (arith, p, y.after), omega (arith, p, y.ends))

  pub known-long : 8 ≤ length s
  known-long = let o = (scan-scanned s a w.is).listed.opened in omega (arith, o.long)

  pub head-known : k.head ≡ a.head
  unfolding accepted_of
  head-known = ap (λ (x : Accepted). x.head) w.known

  -- a 64-bit file is refused
  pub done-wide : (t : Target) → is_wide k.head.form ≡ true → UpgradeDone t s (Err Already64) s
  done-wide t v = done-refused t s _ (upgrade-wide t s a w.is (sym (ap (λ (h : Head). is_wide h.form) head-known) ∙ v))

  module _ (v : is_wide k.head.form ≡ false) where
    narrow : is_wide a.head.form ≡ false
    narrow = sym (ap (λ (h : Head). is_wide h.form) head-known) ∙ v

    riff : a.head.form ≡ Riff
    riff = narrow-riff a.head.form narrow

    -- the first header is the first chunk's
    first-is : k.first ≡ header_of 20 s
    unfolding accepted_of place_of is_wide
    first-is = ap (λ (x : Accepted). x.first) w.known ∙ ap (λ (x : Form). header_of (place_of x s) s) riff

    pub reserved-is : reserved a.rows ≡ (eqb k.first.name JUNK && leb LEAST k.first.field)
    unfolding reserved header_of
    reserved-is = let f = first-row s a w.is riff in ap reserved f.rows ∙ rw (f.named, f.sized, first-is)

    reserve-some : (r : Reserve) → reserve_as k.first ≡ Some r → reserved a.rows ≡ true
    unfolding reserve_as
    reserve-some r = picked P (eqb k.first.name JUNK && leb LEAST k.first.field) _ _ (λ b _. reserved-is ∙ b) (λ b e. cc)
      where
        P : Option Reserve → Type 0
        P x = x ≡ Some r → reserved a.rows ≡ true

    pub reserve-none : reserve_as k.first ≡ None → reserved a.rows ≡ false
    unfolding reserve_as
    reserve-none = picked P (eqb k.first.name JUNK && leb LEAST k.first.field) _ _ (λ b e. cc) (λ b _. reserved-is ∙ b)
      where
        P : Option Reserve → Type 0
        P x = x ≡ None → reserved a.rows ≡ false

    -- a file without reserve is refused
    pub done-unreserved : (t : Target) → reserve_as k.first ≡ None → UpgradeDone t s (Err NoReserve) s
    done-unreserved t e = done-refused t s _ (upgrade-unreserved t s a w.is narrow (reserve-none e))

    -- with one the stores lie in the file, and they are the upgrade
    module _ (t : Target) (r : Reserve) (e : reserve_as k.first ≡ Some r) where
      pub inside : Inside (changes_of t k s) s
      unfolding changes_of Reserved
      inside =
          let f = first-row s a w.is riff in
          let d = data-within in
          record {
            long = omega (arith, room f.row f.rest f.rows, f.ends);
            fact = λ p q. fact-within p (moved t k.fact p q);
            data_field = omega (arith, d.0, d.1);
          }
        where
          room : (x : Entry) (xs : List Entry) → a.rows ≡ x ∷ xs → LEAST ≤ x.size
          room x xs q = (subst Reserved q (reserved-true a.rows (reserve-some r e))).1

      pub done-stored : (u : List ℕ) → u ≡ patched (stores (changes_of t k s)) s → UpgradeDone t s (Ok tt) u
      unfolding verdict_of file_after
      done-stored u p =
          let q = upgrade-given t s a w.is narrow (reserve-some r e) in
          record {
            verdict = sym (ap verdict_of q);
            bytes =
                p
                ∙ ap (λ (x : Accepted). patched (stores (changes_of t x s)) s) w.known
                ∙ ap (λ (l : List Patch). patched l s) (stores-same s a w.is t)
                ∙ sym (ap (file_after s) q);
          }
