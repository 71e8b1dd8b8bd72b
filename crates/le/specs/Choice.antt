-- The choices that definitions are built with.
use Rattle.std.specs.Prelude.{Bool, true, false, List, [], ◌∷◌}

-- the first where the test holds, else the second
unfoldable pub pick {ℓ} : {X : Type ℓ} → Bool → X → X → X
pick true a b = a
pick false a b = b

-- every rule of a list holds
unfoldable pub every : List Bool → Bool
unfolding pick
every [] = true
every (b ∷ bs) = pick b (every bs) false
