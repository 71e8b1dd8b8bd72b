-- The way back: every input that isn't refused gives a file that reads back as it was given, and so does what the writer
-- leaves in its output.
-- Assumes nothing.
use mathlib.Core.Path.{◌≡◌, refl, sym, ap, ◌∙◌, subst}
use mathlib.Core.List.{List}
use Prim.Native.Nat.{ℕ, ◌/◌, ◌^◌, ◌<◌}
use native.Mathlib.Omega.{arith}
use lib.ListN.{length, take, length-take}
use Rattle.le.specs.Number.{Bytes, number}
use Rattle.chunk.specs.declared.Refusal.{Refusal}
use Rattle.chunk.specs.Refusals.{Err, Ok}
use Rattle.chunk.specs.Writes.{Writes}
use Rattle.chunk.proofs.Outputs.{wrote, refusal-keeps}
use Rattle.form.specs.declared.Form.{Form}
use Rattle.form.specs.declared.Form.TheVariants.{Riff, Rf64, Bw64}
use Rattle.form.specs.Forms.{is_wide}
use Rattle.fmt.specs.declared.Format.{Format}
use Rattle.fmt.specs.Formats.{format_in}
use Rattle.bext.specs.Records.{bext_in}
use Rattle.chna.specs.Records.{chna_in, pads_zeroed}
use Rattle.chna.proofs.RoundTrip.{pads-zeroed-reads}
use Rattle.upgrade.specs.declared.Target.{Target}
use Rattle.upgrade.specs.Upgrades.{upgraded}
use Rattle.upgrade.specs.Demand3.{target_form}
use Rattle.file_parts.specs.Parts.{chunk_size}
use Rattle.file.specs.Files.{file_bytes, file_out}
use Rattle.file.specs.Code.{file_size}
use Rattle.writer.specs.WayBack.{WayBack}
use Rattle.file.proofs.Inputs.{accepted-given}
use Rattle.writer.proofs.Tables.{bext-absent, chna-absent}
use Rattle.writer.proofs.Openings.{third_of, head_for}
use Rattle.writer.proofs.Back as back
use Rattle.file.proofs.Outs.{Fine, out-fine}
use Rattle.writer.proofs.Upgrades.{upgrade-is}

-- a head keeps its form
head-form : (form : Form) (s : List ℕ) → (head_for form s).form ≡ form
head-form Riff s = refl
head-form Rf64 s = refl
head-form Bw64 s = refl

module _ (form : Form) (f : Format) (b c a : List ℕ) (w : Fine form f b c a) (small : length (file_bytes form f b c a) < 256 ^ 8) (bytes : Bytes c) where
  -- chna's reader gives the same record
  chna-same : (length c ≡ 0 → ⊥) → chna_in f.channels (pads_zeroed c) ≡ chna_in f.channels c
  chna-same h =
      let r = accepted-given (chna_in f.channels c) (w.input.chna h) in
      pads-zeroed-reads f.channels c r.0 bytes r.1 ∙ sym r.1

  wide-third : form ≡ Rf64 → number 8 36 (file_bytes form f b c a) ≡ length a / f.block
  unfolding is_wide
  wide-third e =
      (back.numbers-are form f b c a w small (ap is_wide e)).third_is ∙ ap (λ (x : Form). third_of x (length a / f.block)) e

  wide-zero : form ≡ Bw64 → number 8 36 (file_bytes form f b c a) ≡ 0
  unfolding is_wide
  wide-zero e =
      (back.numbers-are form f b c a w small (ap is_wide e)).third_is ∙ ap (λ (x : Form). third_of x (length a / f.block)) e

  way-back-fine : WayBack form f b c a (file_bytes form f b c a)
  unfolding file_size chunk_size
  way-back-fine =
      record {
        scanned = back.scan-is form f b c a w small;
        accepted = back.scan-accepts form f b c a w small;
        form_is = head-form form (file_bytes form f b c a);
        rows = refl;
        long = omega (arith, back.file-long form f b c a w small);
        format = refl;
        fmt = ap format_in (back.fmt-payload form f b c a w small) ∙ back.fmt-read form f b c a w small;
        bext = back.bext-payload form f b c a w small;
        bext_record = λ h. ap bext_in (back.bext-payload form f b c a w small h);
        no_bext = bext-absent form (length b) (length c) (length a);
        chna = back.chna-payload form f b c a w small;
        chna_record = λ h. ap (chna_in f.channels) (back.chna-payload form f b c a w small h) ∙ chna-same h;
        no_chna = chna-absent form (length b) (length c) (length a);
        audio = back.audio-payload form f b c a w small;
        samples = back.no-samples form f b c a w small;
        third = wide-third;
        third_zero = wide-zero;
        walk = back.walk-whole form f b c a w small;
        upgrades = λ e t. upgrades form e w small t;
      }
    where
      upgrades : (form : Form) → form ≡ Riff → (w : Fine form f b c a) → length (file_bytes form f b c a) < 256 ^ 8 → (t : Target)
          → upgraded t (file_bytes form f b c a) ≡ file_out (target_form t) f b c a
      upgrades Riff e w small t = upgrade-is f b c a w small t
      upgrades Rf64 e w small t = absurd (let z : ◌≡◌ {A = ℕ} 0 1 = cc in omega arith)
      upgrades Bw64 e w small t = absurd (let z : ◌≡◌ {A = ℕ} 0 1 = cc in omega arith)

-- Demand 2's last sentence: for every input that isn't refused.
pub way_back : (form : Form) (f : Format) (b c a bs : List ℕ) → Bytes c → length bs < 256 ^ 8 → file_out form f b c a ≡ Ok bs
    → WayBack form f b c a bs
way_back form f b c a bs bytes small e =
    let k = out-fine form f b c a bs e in
    subst (WayBack form f b c a) k.1
    (way-back-fine form f b c a k.0 (subst (λ (l : List ℕ). length l < 256 ^ 8) (sym k.1) small) bytes)

-- ---- the writer's output

-- the part that the writer says it wrote
pub written-way-back : (form : Form) (f : Format) (b c a entry exit : List ℕ) (n : ℕ) → Bytes c → length exit < 256 ^ 8
    → Writes (file_out form f b c a) entry exit (Ok n) → WayBack form f b c a (take n exit)
written-way-back form f b c a entry exit n bytes small h =
    way_back form f b c a (take n exit) bytes (omega (arith, length-take n exit)) (wrote (file_out form f b c a) entry exit n h).is_given

-- a refusal changes no byte
pub refusal-changes-nothing : (form : Form) (f : Format) (b c a entry exit : List ℕ) (r : Refusal)
    → Writes (file_out form f b c a) entry exit (Err r) → exit ≡ entry
refusal-changes-nothing form f b c a = refusal-keeps (file_out form f b c a)
