-- What every listed table is, and so every accepted one: its rows stand end to end from byte 12 to the end of the file, under
-- check 10, with ds64 first in a 64-bit form and nowhere else. Each fact is read off rows that are laid.
-- Assumes nothing.
use mathlib.Core.Path.{◌≡◌, refl, sym, ◌∙◌, subst}
use mathlib.Core.List.{List, [], ◌∷◌, ◌++◌, Memᴰ}
use Prim.Native.Nat.{ℕ, ◌-◌, ◌≤◌}
use native.Mathlib.Omega.{arith}
use lib.ListN.{length}
use Rattle.chunk.specs.declared.Entry.{Entry}
use Rattle.chunk.specs.Refusals.{Ok}
use Rattle.chunk.specs.Walks.{Rule, past}
use Rattle.chunk.proofs.Laid.{row-size, Row, Laid, done, next, laid-lies}
use Rattle.form.proofs.Heads.{wide-head, ds64-rules}
use Rattle.truesize.specs.Sizes.{true_size, entries_of}
use Rattle.truesize.proofs.Sizes.{own-true, ds64-first}
use Rattle.truesize.proofs.Told.{size-told, told-marks}
use Rattle.listing.specs.Listings.{Listing, listing}
use Rattle.listing.proofs.Checked.{listing-checked}
use Rattle.wave.specs.Scans.{Scan, listing_of, scan}
use Rattle.wave.specs.Tables.{own_field, EndToEnd, GoodTable, ListedTable}
use Rattle.wave.proofs.Scanned.{scan-listed}

laid-ends : {rule : Rule} {s : List ℕ} {at : ℕ} {rows : List Entry} → Laid rule s at rows → EndToEnd at rows (length s)
unfolding EndToEnd
laid-ends (done h) = h
laid-ends (next r l) = (r.place, laid-ends l)

laid-later : {rule : Rule} {s : List ℕ} {at : ℕ} (xs : List Entry) (e : Entry) (ys : List Entry) → Laid rule s at (xs ++ e ∷ ys)
    → (f : Entry) → Memᴰ f ys → past e ≤ f.place - 8
laid-later {at = at} [] e ys (next r l) f m = omega (arith, (laid-lies l m).after)
laid-later {at = at} (x ∷ xs) e ys (next r l) f m = laid-later {at = past x} xs e ys l f m

pub laid-first : {rule : Rule} {s : List ℕ} {at : ℕ} (rows : List Entry) → Laid rule s at rows → (at ≡ length s → ⊥)
    → (e : Entry) × (es : List Entry) × (rows ≡ e ∷ es) × Row rule s at e × Laid rule s (past e) es
laid-first [] (done h) k = absurd (k h)
laid-first (e ∷ es) (next r l) k = (e, es, refl, r, l)

pub list-tables : (s : List ℕ) (l : Listing) → listing s ≡ Ok l → ListedTable s l
unfolding own_field
list-tables s l e =
    let c = listing-checked s l e in
    let ks = entries_of l.head s in
    let rule = true_size l.head ks in
    record {
      most = c.few;
      end_to_end = laid-ends c.laid;
      named = λ x m. sym (laid-lies c.laid m).named;
      inside = λ x m. ((laid-lies c.laid m).after, (laid-lies c.laid m).ends);
      apart = λ xs x ys h. laid-later xs x ys (subst (Laid rule s 12) h c.laid);
      own = λ x m.
          own-true l.head ks (x.place - 8) x.name (own_field s x) _ (laid-lies c.laid m).sized;
      marks = λ x m.
          told-marks l.head.form l.head.ds64 ks x.name (own_field s x) (row-size x)
          (size-told l.head ks (x.place - 8) x.name (own_field s x) (row-size x) (laid-lies c.laid m).sized);
      one_fmt = c.chunked.one_fmt;
      one_data = c.chunked.one_data;
      fmt_first = c.chunked.fmt_first;
      wide = λ w.
          let r = ds64-rules _ _ _ _ (wide-head l.head.form s l.head w c.opened.head).0 in
          let f = laid-first l.rows c.laid (omega arith) in
          (f.0, f.1, f.2, sym f.3.named ∙ r.named, f.3.place);
      ds64 = λ x m h.
          let r = laid-lies c.laid m in
          let d = ds64-first l.head ks (x.place - 8) x.name (own_field s x) _ r.sized h in
          (d.0, omega (arith, d.1, r.after));
    }

-- So of every accepted one.
pub tables : (s : List ℕ) (a : Scan) → scan s ≡ Ok a → GoodTable s a
tables s a e =
    let t = list-tables s (listing_of a) (scan-listed s a e) in
    record {
      most = t.most;
      end_to_end = t.end_to_end;
      named = t.named;
      inside = t.inside;
      apart = t.apart;
      own = t.own;
      marks = t.marks;
      one_fmt = t.one_fmt;
      one_data = t.one_data;
      fmt_first = t.fmt_first;
      wide = t.wide;
      ds64 = t.ds64;
    }
