-- Lists that a function of the place gives.
use Rattle.std.specs.Prelude.{ℕ, zero, suc, List, [], ◌∷◌, ◌++◌}

-- the values of a function at 0 to n - 1, in this order
abbrev pub list_of : {X : Type 0} → ℕ → (ℕ → X) → List X
list_of zero f = []
list_of (suc n) f = list_of n f ++ f n ∷ []

-- the lists that a function gives at 0 to n - 1, one after another
abbrev pub joined : {X : Type 0} → ℕ → (ℕ → List X) → List X
joined zero f = []
joined (suc n) f = joined n f ++ f n
