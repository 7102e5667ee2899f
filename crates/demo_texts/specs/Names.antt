-- Names of a letter and a number.
use Rattle.std.specs.Prelude.{ℕ, List, ◌∷◌}
use Rattle.std.specs.Fmt.{decimal}
use Rattle.fabric_defs.specs.Numbered.{list_of}

-- a letter and behind it the number, without leading zeros
abbrev pub name_of : ℕ → ℕ → List ℕ
name_of letter number = letter ∷ decimal number

-- the names of a letter and the numbers below a count, in their order
abbrev pub names_of : ℕ → ℕ → List (List ℕ)
names_of letter count = list_of count (name_of letter)
