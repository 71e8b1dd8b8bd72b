-- What only the code's contracts need.
use Rattle.std.specs.Prelude.{ℕ, ◌<◌, ◌≡◌, Bool, List, [], ◌∷◌, ◌⊎◌, length}
use Rattle.le.specs.Choice.{every}
use Rattle.fmt.specs.declared.Format.{Format}
use Rattle.fmt.specs.Formats.{record_in, valid_good, extra_good}

-- the fields of a payload, of which the number of channels fits its bytes
pub record Fields (p : List ℕ) (f : Format) : Type 0 where
  pub is : f ≡ record_in p
  pub channels_fit : f.channels < 65536

-- the fields of a payload of 18 or 40 bytes
pub record Longer (p : List ℕ) (f : Format) : Type 0 where
  pub is : f ≡ record_in p
  pub long : (length p ≡ 18) ⊎ (length p ≡ 40)

-- the rules that a payload of 16 bytes always keeps
unfoldable pub rest_good : List ℕ → Format → Bool
unfolding every
rest_good p f = every (extra_good p ∷ valid_good f.size f.bits f.valid f.mask ∷ [])
