-- What the characters of a script mean, and what each does to the state, the file and the kept file.
use Rattle.std.specs.Prelude.{ℕ, ◌+◌, ◌-◌, ◌*◌, ◌%◌, ◌&&◌, List, ◌++◌, length, drop, eqb, leb}
use Rattle.le.specs.Number.{stored}
use Rattle.le.specs.Choice.{pick}
use Rattle.script.specs.declared.Mode.{Mode}
use Rattle.script.specs.declared.Mode.TheVariants.{Command, Text, Label, Comment}
use Rattle.script.specs.declared.State.{State}
use Rattle.script.specs.declared.Sign.{Sign}
use Rattle.script.specs.declared.Sign.TheVariants.{Digit, Go, Put, Enter, Keep, Back, Print, Own}

-- ---- what a character means

-- among the commands, after the number n: 0 to 9 @ , . + ^ * " ( ; = !
unfoldable pub command_of : ℕ → ℕ → Sign
unfolding pick
command_of b n =
    pick (leb 48 b && leb b 57) (Digit (b - 48))
    (pick (eqb b 64) Go
    (pick (eqb b 44) (Put 1 n)
    (pick (eqb b 46) (Put 2 n)
    (pick (eqb b 43) (Put 4 n)
    (pick (eqb b 94) (Put 8 n)
    (pick (eqb b 42) (Put 4 0xFFFFFFFF)
    (pick (eqb b 34) (Enter Text)
    (pick (eqb b 40) (Enter Label)
    (pick (eqb b 59) (Enter Comment)
    (pick (eqb b 61) Keep
    (pick (eqb b 33) Back Own)))))))))))

-- in a text, which ends with a character
unfoldable pub within : ℕ → ℕ → Sign → Sign
unfolding pick
within b end sign = pick (eqb b end) (Enter Command) sign

-- a text to put ends with ", one to print with ), a comment with the line
unfoldable pub meaning : Mode → ℕ → ℕ → Sign
unfolding command_of within
meaning Command b n = command_of b n
meaning Text b n = within b 34 (Put 1 b)
meaning Label b n = within b 41 Print
meaning Comment b n = within b 10 (Enter Comment)

unfoldable pub sign_of : State → ℕ → Sign
unfolding meaning
sign_of s b = meaning s.mode b s.n

-- ---- what it does

-- before the first character
abbrev pub started : State
started = record { mode = Command; at = 0; n = 0 }

-- the place after so many bytes, which are put only where they fit
unfoldable pub place_after : ℕ → ℕ → ℕ → ℕ
unfolding pick
place_after at width len = pick (leb (at + width) len) (at + width) at

-- the file after them
unfoldable pub put_at : ℕ → ℕ → ℕ → List ℕ → List ℕ
unfolding pick
put_at at width value f = pick (leb (at + width) (length f)) (stored width at value f) f

-- bytes over the first of others, where they fit
unfoldable pub laid : List ℕ → List ℕ → List ℕ
unfolding pick
laid f t = pick (leb (length f) (length t)) (f ++ drop (length f) t) t

-- a state with no number
abbrev pub still : Mode → ℕ → State
still mode at = record { mode = mode; at = at; n = 0 }

-- a state with one more digit; of a long number the low 60 bits go on
abbrev pub longer : State → ℕ → State
longer s d = record { mode = s.mode; at = s.at; n = s.n % 0x1000000000000000 * 10 + d }

-- all that a script works on
pub record Work : Type 0 where
  pub state : State
  pub file : List ℕ
  pub kept : List ℕ

abbrev pub work : State → List ℕ → List ℕ → Work
work s f k = record { state = s; file = f; kept = k }

-- what a character of this meaning makes of a state, a file and a kept one
unfoldable pub after : Sign → State → List ℕ → List ℕ → Work
unfolding place_after put_at laid
after (Digit d) s f k = work (longer s d) f k
after Go s f k = work (still s.mode s.n) f k
after (Put width value) s f k = work (still s.mode (place_after s.at width (length f))) (put_at s.at width value f) k
after (Enter mode) s f k = work (still mode s.at) f k
after Keep s f k = work (still s.mode s.at) f (laid f k)
after Back s f k = work (still s.mode s.at) (laid k f) k
after Print s f k = work (still s.mode s.at) f k
after Own s f k = work (still s.mode s.at) f k
