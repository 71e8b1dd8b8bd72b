-- What is written is read back as the record given, and a payload that was read is written again byte for byte where its
-- bytes a second are rate times block. So a record can be written exactly when it could have been read and has that rate.
-- Assumes nothing.
use mathlib.Core.Path.{◌≡◌, refl, sym, ap, ap₂, ◌∙◌, subst}
use mathlib.Core.Bool.{true}
use mathlib.Core.List.{List, [], ◌∷◌, ◌++◌, append_assoc, append-nil}
use mathlib.Core.Logic.{◌⊎◌, inl, inr, ◌↔◌}
use Prim.Native.Nat.{ℕ, ◌*◌, ◌≤◌, ◌<◌}
use native.Mathlib.Omega.{arith}
use lib.ListN.{length, take, drop, drop_of_length-le}
use lib.Dec.{eqb}
use borrow.Author.Tests.{eq-eqb, eqb-true}
use Rattle.le.specs.Number.{Bytes, value, bytes, field, number}
use Rattle.le.proofs.Laws.{value-bytes, number-then, Bytes-bytes, Bytes-append}
use Rattle.chunk.specs.declared.Refusal.{Refusal}
use Rattle.chunk.specs.Refusals.{Ok, Err}
use Rattle.chunk.specs.Writes.{Writes}
use Rattle.chunk.proofs.Checks.{given-inj, picked}
use Rattle.chunk.proofs.Outputs.{wrote, refusal-keeps}
use Rattle.fmt.specs.declared.Format.{Format}
use Rattle.fmt.specs.Formats.{SUBFORMAT-LOW, SUBFORMAT-HIGH, record_in, size_good, extra_good, format_in}
use Rattle.fmt.specs.Writing.{head_bytes, extra_bytes, format_bytes, writable, format_out}
use Rattle.fmt.proofs.Laws.{all, of40, present, absent, gathered, good, samples, bits_range, size-cases, tag_fits, valid-40, valid-none, Holds, format-given, given-format, bounds, size_is, extra-16, extra-18, extra-40}
use Rattle.fmt.proofs.Payloads.{Writable, writable-true, writable-of, out-given, out_of, payload-length}

-- ---- the bytes that a record does not keep

extra-good-16 : (p : List ℕ) → length p ≡ 16 → extra_good p ≡ true
unfolding extra_good
extra-good-16 p l = rw l

extra-good-18 : (p : List ℕ) → length p ≡ 18 → number 2 16 p ≡ 0 → extra_good p ≡ true
unfolding extra_good
extra-good-18 p l e = rw (l, e)

extra-is-none : (p : List ℕ) → length p ≡ 18 → extra_good p ≡ true → number 2 16 p ≡ 0
unfolding extra_good
extra-is-none p l h = eqb-true _ _ (rw l at h)

record Extra40 (p : List ℕ) : Type 0 where
  count : number 2 16 p ≡ 22
  low : number 8 24 p ≡ SUBFORMAT-LOW
  high : number 8 32 p ≡ SUBFORMAT-HIGH

extra-is-40 : (p : List ℕ) → length p ≡ 40 → extra_good p ≡ true → Extra40 p
unfolding extra_good
extra-is-40 p l h =
    let k =
    all
    (eqb (number 2 16 p) 22 ∷ eqb (number 8 24 p) SUBFORMAT-LOW ∷ eqb (number 8 32 p) SUBFORMAT-HIGH ∷ [])
    (rw l at h) in
    record { count = eqb-true _ _ k.0; low = eqb-true _ _ k.1.0; high = eqb-true _ _ k.1.1.0 }

-- ---- written, then read

module _ (f : Format) (w : Writable f) where
  head-is : (tail : List ℕ) → (f.size ≡ length (head_bytes f ++ tail))
      → f.valid ≡ of40 (head_bytes f ++ tail) 2 18
      → f.mask ≡ of40 (head_bytes f ++ tail) 4 20
      → f ≡ record_in (head_bytes f ++ tail)
  unfolding head_bytes number field bytes
  head-is tail size valid mask =
      let g = good f w.good in
      let bits : f.bits < 65536 =
      omega (arith, (bits_range f.bits (samples _ _ _ _ g.samples).bits_good).1) in
      gathered (head_bytes f ++ tail) f size
      (sym (value-bytes 2 f.tag (tag_fits _ _ g.size)))
      (sym (value-bytes 2 f.channels w.fit.channels))
      (sym (value-bytes 4 f.rate w.fit.rate))
      (sym (value-bytes 4 f.byterate w.fit.byterate))
      (sym (value-bytes 2 f.block w.fit.block))
      (sym (value-bytes 2 f.bits bits))
      valid
      mask

  size-is-length : f.size ≡ length (format_bytes f)
  size-is-length = sym (payload-length f w.good)

  -- without valid bits and mask
  short-is : (f.size ≡ 40 → ⊥) → f ≡ record_in (format_bytes f)
  unfolding format_bytes
  short-is n =
      let zeros = valid-none _ _ _ _ (good f w.good).valid n in
      head-is (extra_bytes f) size-is-length
      (absent _ 2 18 (λ e. n (size-is-length ∙ e)) zeros.0)
      (absent _ 4 20 (λ e. n (size-is-length ∙ e)) zeros.1)

  module _ (e : f.size ≡ 40) where
    tail40 : List ℕ
    tail40 = bytes 2 22 ++ (bytes 2 f.valid ++ (bytes 4 f.mask ++ (bytes 8 SUBFORMAT-LOW ++ bytes 8 SUBFORMAT-HIGH)))

    payload40 : format_bytes f ≡ head_bytes f ++ tail40
    unfolding format_bytes tail40
    payload40 = ap (λ (l : List ℕ). head_bytes f ++ l) (extra-40 f e)

    valid-fits : f.valid < 65536
    valid-fits =
        let g = good f w.good in
        omega (
          arith,
          (valid-40 _ _ _ _ g.valid e).1,
          (bits_range f.bits (samples _ _ _ _ g.samples).bits_good).1,
        )

    long-is : f ≡ record_in (format_bytes f)
    unfolding head_bytes number field bytes tail40
    long-is =
        let l : length (head_bytes f ++ tail40) ≡ 40 = refl in
        head-is tail40 (e ∙ sym l)
        (present (head_bytes f ++ tail40) 2 18 l (sym (value-bytes 2 f.valid valid-fits)))
        (present (head_bytes f ++ tail40) 4 20 l (sym (value-bytes 4 f.mask w.fit.mask)))
        ∙ ap record_in (sym payload40)

    long-extra : extra_good (format_bytes f) ≡ true
    unfolding head_bytes number field bytes tail40 extra_good value
    long-extra = ap extra_good payload40

  extra-is-0 : f.size ≡ 18 → number 2 16 (format_bytes f) ≡ 0
  unfolding format_bytes head_bytes number field bytes value
  extra-is-0 e = ap (λ (l : List ℕ). number 2 16 (head_bytes f ++ l)) (extra-18 f e)

  holds : Holds (format_bytes f) f
  holds = cases (size-cases _ _ (good f w.good).size)
    where
      cases : (f.size ≡ 16) ⊎ ((f.size ≡ 18) ⊎ (f.size ≡ 40)) → Holds (format_bytes f) f
      cases (inl e) =
          record {
            is = short-is (omega arith);
            extra = extra-good-16 (format_bytes f) (omega (arith, size-is-length));
            rules = w.good;
          }
      cases (inr (inl e)) =
          record {
            is = short-is (omega arith);
            extra = extra-good-18 (format_bytes f) (omega (arith, size-is-length)) (extra-is-0 e);
            rules = w.good;
          }
      cases (inr (inr e)) = record { is = long-is e; extra = long-extra e; rules = w.good }

-- what is written is read back as the record given
pub reads-back : (f : Format) (bs : List ℕ) → format_out f ≡ Ok bs → format_in bs ≡ Ok f
reads-back f bs h =
    let k = out-given f bs h in
    ap format_in k.1 ∙ given-format (format_bytes f) f (holds f (writable-true f k.0))

-- so is what the writer leaves at the start of its output
pub output-reads-back : (f : Format) (s t : List ℕ) (n : ℕ) → Writes (format_out f) s t (Ok n) → format_in (take n t) ≡ Ok f
output-reads-back f s t n h = reads-back f (take n t) (wrote (format_out f) s t n h).is_given

-- a refusal changes no byte
pub refusal-changes-nothing : (f : Format) (s t : List ℕ) (r : Refusal) → Writes (format_out f) s t (Err r) → t ≡ s
refusal-changes-nothing f = refusal-keeps (format_out f)

-- ---- read, then written

module _ (p : List ℕ) (b : Bytes p) where
  head-again : 16 ≤ length p → head_bytes (record_in p) ++ drop 16 p ≡ p
  unfolding head_bytes record_in
  head-again l =
      simp append_assoc
      (sym
      (number-then 2 0 p b (omega arith)
      ∙ ap (λ (r : List ℕ). bytes 2 (number 2 0 p) ++ r)
      (number-then 2 2 p b (omega arith)
      ∙ ap (λ (r : List ℕ). bytes 2 (number 2 2 p) ++ r)
      (number-then 4 4 p b (omega arith)
      ∙ ap (λ (r : List ℕ). bytes 4 (number 4 4 p) ++ r)
      (number-then 4 8 p b (omega arith)
      ∙ ap (λ (r : List ℕ). bytes 4 (number 4 8 p) ++ r)
      (number-then 2 12 p b (omega arith)
      ∙ ap (λ (r : List ℕ). bytes 2 (number 2 12 p) ++ r) (number-then 2 14 p b (omega arith))))))))

  module _ (x : extra_good p ≡ true) where
    again-16 : length p ≡ 16 → extra_bytes (record_in p) ≡ drop 16 p
    unfolding record_in
    again-16 l = extra-16 (record_in p) (omega arith) (omega arith) ∙ sym (drop_of_length-le p {i = 16} (omega arith))

    again-18 : length p ≡ 18 → extra_bytes (record_in p) ≡ drop 16 p
    unfolding record_in
    again-18 l =
        extra-18 (record_in p) l
        ∙ sym
        (number-then 2 16 p b (omega arith)
        ∙ ap₂ (λ (n : ℕ) (r : List ℕ). bytes 2 n ++ r) (extra-is-none p l x) (drop_of_length-le p {i = 18} (omega arith))
        ∙ append-nil (bytes 2 0))

    again-40 : length p ≡ 40 → extra_bytes (record_in p) ≡ drop 16 p
    unfolding record_in
    again-40 l =
        let k = extra-is-40 p l x in
        extra-40 (record_in p) l
        ∙ simp (eq-eqb _ _ l, sym k.count, sym k.low, sym k.high)
        (sym
        (number-then 2 16 p b (omega arith)
        ∙ ap (λ (r : List ℕ). bytes 2 (number 2 16 p) ++ r)
        (number-then 2 18 p b (omega arith)
        ∙ ap (λ (r : List ℕ). bytes 2 (number 2 18 p) ++ r)
        (number-then 4 20 p b (omega arith)
        ∙ ap (λ (r : List ℕ). bytes 4 (number 4 20 p) ++ r)
        (number-then 8 24 p b (omega arith)
        ∙ ap (λ (r : List ℕ). bytes 8 (number 8 24 p) ++ r)
        (number-then 8 32 p b (omega arith)
        ∙ ap (λ (r : List ℕ). bytes 8 (number 8 32 p) ++ r) (drop_of_length-le p {i = 40} (omega arith))
        ∙ append-nil (bytes 8 (number 8 32 p))))))))

least : (t s : ℕ) → size_good t s ≡ true → 16 ≤ s
least t s h = cases (size-cases t s h)
  where
    cases : (s ≡ 16) ⊎ ((s ≡ 18) ⊎ (s ≡ 40)) → 16 ≤ s
    cases (inl e) = omega arith
    cases (inr (inl e)) = omega arith
    cases (inr (inr e)) = omega arith

-- the payload of the record that was read is the payload
pub payload-again : (p : List ℕ) (f : Format) → Bytes p → format_in p ≡ Ok f → format_bytes f ≡ p
unfolding format_bytes
payload-again p f b h =
    let k = format-given p f h in
    let size : f.size ≡ length p = size_is p f h in
    ap format_bytes k.is
    ∙ ap (λ (r : List ℕ). head_bytes (record_in p) ++ r)
    (cases k.extra (subst (λ (n : ℕ). (n ≡ 16) ⊎ ((n ≡ 18) ⊎ (n ≡ 40))) size (size-cases _ _ (good f k.rules).size)))
    ∙ head-again p b (omega (arith, least _ _ (good f k.rules).size))
  where
    cases : extra_good p ≡ true → (length p ≡ 16) ⊎ ((length p ≡ 18) ⊎ (length p ≡ 40)) → extra_bytes (record_in p) ≡ drop 16 p
    cases x (inl l) = again-16 p b x l
    cases x (inr (inl l)) = again-18 p b x l
    cases x (inr (inr l)) = again-40 p b x l

could-write : (p : List ℕ) (f : Format) → Bytes p → format_in p ≡ Ok f → f.byterate ≡ f.rate * f.block → writable f ≡ true
could-write p f b h e =
    let k = bounds p f b h in
    writable-of f
    (record {
      fit =
          record {
            channels = k.channels;
            rate = k.rate;
            byterate = k.byterate;
            block = k.block;
            mask = k.mask;
          };
      good = (format-given p f h).rules;
      product = e;
    })

-- reading then writing gives the same bytes where bytes a second are rate times block
pub writes-back : (p : List ℕ) (f : Format) → Bytes p → format_in p ≡ Ok f → f.byterate ≡ f.rate * f.block
    → format_out f ≡ Ok p
writes-back p f b h e = out_of f (could-write p f b h e) ∙ ap Ok (payload-again p f b h)

-- an accepted payload has one record, and a record one payload
pub one-record : (p : List ℕ) (f g : Format) → format_in p ≡ Ok f → format_in p ≡ Ok g → f ≡ g
one-record p f g h k = given-inj f g (sym h ∙ k)

pub one-payload : (p q : List ℕ) (f : Format) → Bytes p → Bytes q → format_in p ≡ Ok f → format_in q ≡ Ok f → p ≡ q
one-payload p q f bp bq h k = sym (payload-again p f bp h) ∙ payload-again q f bq k

-- ---- what can be written

-- a payload of bytes that is read as a record
pub record ReadFrom (f : Format) : Type 0 where
  pub payload : List ℕ
  pub all_bytes : Bytes payload
  pub is_read : format_in payload ≡ Ok f

-- a number's bytes in front of bytes
after : (n v : ℕ) (r : List ℕ) → Bytes r → Bytes (bytes n v ++ r)
after n v r h = Bytes-append (bytes n v) r (Bytes-bytes n v) h

head_bytes_lem : (f : Format) → Bytes (head_bytes f)
unfolding head_bytes
head_bytes_lem f =
    after 2 f.tag _
    (after 2 f.channels _ (after 4 f.rate _ (after 4 f.byterate _ (after 2 f.block _ (Bytes-bytes 2 f.bits)))))

extra-bytes : (f : Format) → Bytes (extra_bytes f)
unfolding extra_bytes bytes
extra-bytes f =
    picked Bytes (eqb f.size 18) _ _
    (λ e. Bytes-bytes 2 0)
    (λ e. picked Bytes (eqb f.size 40) _ _
    (λ e'. after 2 22 _
    (after 2 f.valid _ (after 4 f.mask _ (after 8 SUBFORMAT-LOW _ (Bytes-bytes 8 SUBFORMAT-HIGH)))))
    (λ e'. Bytes-bytes 0 0))

payload-bytes : (f : Format) → Bytes (format_bytes f)
unfolding format_bytes
payload-bytes f = Bytes-append (head_bytes f) (extra_bytes f) (head_bytes_lem f) (extra-bytes f)

-- a record can be written exactly when it could have been read and its bytes a second are rate times block
pub writable-exactly : (f : Format)
    → (writable f ≡ true) ↔ (ReadFrom f × (f.byterate ≡ f.rate * f.block))
writable-exactly f = (
  (λ h. (
    record {
      payload = format_bytes f;
      all_bytes = payload-bytes f;
      is_read = reads-back f (format_bytes f) (out_of f h);
    },
    (writable-true f h).product,
  )),
  (λ k. could-write k.0.payload f k.0.all_bytes k.0.is_read k.1),
)
