-- Document 01, "bext" (001 4.3): the parts of a payload, each with its rule.
use Rattle.std.specs.Prelude.{ℕ, ◌+◌, ◌-◌, ◌*◌, Bool, true, false, ◌&&◌, ◌||◌, List, [], ◌∷◌, ◌++◌, length, drop, get_or, replicate, eqb, leb}
use Rattle.le.specs.Choice.{pick}

-- ---- reading

-- every byte is zero
unfoldable pub all_zero : List ℕ → Bool
unfolding pick
all_zero [] = true
all_zero (b ∷ bs) = pick (eqb b 0) (all_zero bs) false

-- "A text is the bytes before its first zero, or all of them"
unfoldable pub text_of : List ℕ → List ℕ
unfolding pick
text_of [] = []
text_of (b ∷ bs) = pick (eqb b 0) [] (b ∷ text_of bs)

-- "bytes after that zero are zero"
unfoldable pub text_good : List ℕ → Bool
text_good s = all_zero (drop (length (text_of s)) s)

-- an ASCII digit
unfoldable pub is_digit : ℕ → Bool
is_digit b = leb 0x30 b && leb b 0x39

-- two digits at a place, whose number lies from low to high
unfoldable pub two_digits : List ℕ → ℕ → ℕ → ℕ → Bool
two_digits s at low high =
    is_digit (get_or s at 0)
    && is_digit (get_or s (at + 1) 0)
    && leb low (10 * (get_or s at 0 - 0x30) + (get_or s (at + 1) 0 - 0x30))
    && leb (10 * (get_or s at 0 - 0x30) + (get_or s (at + 1) 0 - 0x30)) high

-- "Each ? is one of hyphen, underscore, colon, space, full stop"
unfoldable pub is_separator : ℕ → Bool
is_separator b = eqb b 0x2D || eqb b 0x5F || eqb b 0x3A || eqb b 0x20 || eqb b 0x2E

-- "Date is yyyy?mm?dd with month 01 to 12 and day 01 to 31", of 10 bytes
unfoldable pub date_good : List ℕ → Bool
date_good d =
    two_digits d 0 0 99
    && two_digits d 2 0 99
    && is_separator (get_or d 4 0)
    && two_digits d 5 1 12
    && is_separator (get_or d 7 0)
    && two_digits d 8 1 31

-- "time is hh?mm?ss with hours 00 to 24 as 001 prints it, minutes and seconds 00 to 59", of 8 bytes
unfoldable pub time_good : List ℕ → Bool
time_good t =
    two_digits t 0 0 24
    && is_separator (get_or t 2 0)
    && two_digits t 3 0 59
    && is_separator (get_or t 5 0)
    && two_digits t 6 0 59

-- "Either may be all zero bytes for "not set""
unfoldable pub set_of : List ℕ → List ℕ
unfolding pick
set_of d = pick (all_zero d) [] d

-- "With Version 0 the 254 bytes are zero; with another they are carried unread"
unfoldable pub rest_good : ℕ → List ℕ → Bool
unfolding pick
rest_good version rest = pick (eqb version 0) (all_zero rest) true

-- ---- a part that could have been read

-- a text of at most n bytes, none of them zero
unfoldable pub text_given : ℕ → List ℕ → Bool
text_given n t = leb (length t) n && eqb (length (text_of t)) (length t)

-- a date, or none for "not set"
unfoldable pub date_given : List ℕ → Bool
date_given d = eqb (length d) 0 || eqb (length d) 10 && date_good d

unfoldable pub time_given : List ℕ → Bool
time_given t = eqb (length t) 0 || eqb (length t) 8 && time_good t

-- the 254 bytes after Version
unfoldable pub rest_given : ℕ → List ℕ → Bool
rest_given version rest = eqb (length rest) 254 && rest_good version rest

-- ---- writing

-- the 254 bytes that a writer is given: none at all stand for zeros
unfoldable pub rest_of : List ℕ → List ℕ
unfolding pick
rest_of rest = pick (eqb (length rest) 0) (replicate 254 0) rest

-- a text and zeros after it, n bytes in all
unfoldable pub padded : ℕ → List ℕ → List ℕ
padded n t = t ++ replicate (n - length t) 0
