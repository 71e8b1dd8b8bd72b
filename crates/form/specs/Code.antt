-- What the code alone needs: the parts that it makes the answers of Forms of.
use Rattle.std.specs.Prelude.{ℕ, ◌+◌, ◌-◌, ◌%◌, List, length, eqb, leb}
use Rattle.le.specs.Number.{number}
use Rattle.le.specs.Choice.{pick}
use Rattle.chunk.specs.declared.Refusal.TheVariants.{TooShort, NotWave, BadDs64, BadFormSize}
use Rattle.chunk.specs.Refusals.{Answer, Verdict, Err, Ok, check, and_then}
use Rattle.chunk.specs.Names.{WAVE}
use Rattle.chunk.specs.Tables.{LIMIT}
use Rattle.form.specs.declared.Form.{Form}
use Rattle.form.specs.declared.Head.{Head}
use Rattle.form.specs.declared.Start.{Start}
use Rattle.form.specs.declared.Parsed.{Parsed}
use Rattle.form.specs.Forms.{is_wide, form_of, ds64_good, ds64_at, whole_form}

-- the place of the chunk past a first chunk of a size
abbrev pub second : ℕ → ℕ
second n = 20 + n + n % 2 + 8

-- check 4
unfoldable pub parsed_as : List ℕ → Answer Parsed
unfolding check
parsed_as s =
    check (ds64_good (length s) (number 4 12 s) (number 4 16 s) (number 4 44 s)) BadDs64
    (Ok (record { ds64 = ds64_at s; next = second (number 4 16 s) }))

-- checks 1 and 2, but for the form's name
unfoldable pub wave_of : List ℕ → Verdict
unfolding check
wave_of s = check (leb 12 (length s)) TooShort (check (eqb (number 4 8 s) WAVE) NotWave (Ok tt))

-- checks 1 and 2
unfoldable pub form_in : List ℕ → Answer Form
unfolding and_then
form_in s = and_then (wave_of s) λ _. form_of (number 4 0 s)

-- check 5 of a form size
unfoldable pub whole_of : (len size : ℕ) → Verdict
unfolding check
whole_of len size = check (whole_form len size) BadFormSize (Ok tt)

-- where the chunks that are not ds64 start, and how many may come there
unfoldable pub place_of : Form → List ℕ → ℕ
unfolding pick
place_of f s = pick (is_wide f) (second (number 4 16 s)) 20

unfoldable pub room_of : Form → ℕ
unfolding pick
room_of f = pick (is_wide f) (LIMIT - 1) LIMIT

unfoldable pub opened_as : List ℕ → Answer Head → Answer Start
opened_as s (Err r) = Err r
opened_as s (Ok h) = Ok (record { head = h; place = place_of h.form s; room = room_of h.form })
