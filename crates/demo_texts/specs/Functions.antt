-- The functions of the covers of both designs, as the rows where they are one.
use Rattle.std.specs.Prelude.{true, List, [], ◌∷◌, ℕ}
use Rattle.blif_defs.specs.declared.mark.Mark.{Mark}
use Rattle.blif_defs.specs.declared.mark.Mark.TheVariants.{Zero, One, Any}
use Rattle.blif_defs.specs.Values.{CoverValue}
use Rattle.demo_texts.specs.declared.function.Function.{Function}
use Rattle.demo_texts.specs.declared.function.Function.TheVariants.{Xor2, And2, Xnor2, Or2, Xor3, Majority, Choice, Same}

-- the rows of a function
abbrev pub rows_of : Function → List (List Mark)
rows_of Xor2 = (One ∷ Zero ∷ []) ∷ (Zero ∷ One ∷ []) ∷ []
rows_of And2 = (One ∷ One ∷ []) ∷ []
rows_of Xnor2 = (Zero ∷ Zero ∷ []) ∷ (One ∷ One ∷ []) ∷ []
rows_of Or2 = (One ∷ Any ∷ []) ∷ (Any ∷ One ∷ []) ∷ []
rows_of Xor3 =
    (One ∷ Zero ∷ Zero ∷ []) ∷ (Zero ∷ One ∷ Zero ∷ []) ∷ (Zero ∷ Zero ∷ One ∷ [])
    ∷ (One ∷ One ∷ One ∷ []) ∷ []
rows_of Majority =
    (One ∷ One ∷ Any ∷ []) ∷ (One ∷ Any ∷ One ∷ []) ∷ (Any ∷ One ∷ One ∷ []) ∷ []
rows_of Choice = (Zero ∷ One ∷ Any ∷ []) ∷ (One ∷ Any ∷ One ∷ []) ∷ []
rows_of Same = (One ∷ []) ∷ []

-- the cover of a function, with these inputs and this output
abbrev pub cover : Function → List (List ℕ) → List ℕ → CoverValue
cover function ins out = record { ins = ins; out = out; on = true; rows = rows_of function }
