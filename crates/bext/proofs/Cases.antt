-- The edges of bext's rules, computed.
-- Assumes nothing.
use mathlib.Core.Path.{◌≡◌, refl}
use mathlib.Core.Bool.{true}
use Rattle.le.specs.Number.{field, number, value}
use Rattle.le.specs.Choice.{every}
use Rattle.bext_parts.specs.Parts.{all_zero, text_of, text_good, is_digit, two_digits, is_separator, date_good, time_good, rest_good}
use Rattle.bext.specs.Records.{rules_of, bext_in}
use Rattle.bext.specs.Cases.{dated, timed, payload, accepted, refused_by13, good, bad}

pub good-holds : every good ≡ true
unfolding field number value every all_zero text_of text_good is_digit two_digits is_separator date_good time_good rest_good rules_of bext_in dated timed payload accepted good
good-holds = refl

pub bad-holds : every bad ≡ true
unfolding field number value every all_zero text_of text_good is_digit two_digits is_separator date_good time_good rest_good rules_of bext_in dated timed payload refused_by13 bad
bad-holds = refl
