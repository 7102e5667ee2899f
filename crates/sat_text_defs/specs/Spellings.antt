-- What a word spells, computed from its bytes.
use Rattle.std.specs.Prelude.{ℕ, Bool, true, false, ◌==◌, List, [], ◌∷◌, Option, None, option_map, if◌then◌else◌}
use Rattle.clause_defs.specs.declared.verdict.TheConstants.{MAX_VARIABLE, MAX_INDEX}
use Rattle.clause_defs.specs.Literals.{Literal}
use Rattle.text_defs.specs.Numbers.{positive_within}

-- the word is this byte alone
abbrev pub is_byte : ℕ → List ℕ → Bool
is_byte byte [] = false
is_byte byte (b ∷ []) = b == byte
is_byte byte (b ∷ c ∷ bs) = false

-- the word is the digit 0 alone
abbrev pub is_zero : List ℕ → Bool
is_zero w = is_byte 48 w

-- the word is the sign `*` alone
abbrev pub is_sign : List ℕ → Bool
is_sign w = is_byte 42 w

-- the index that the word spells
abbrev pub index_in : List ℕ → Option ℕ
index_in w = positive_within MAX_INDEX w

-- the literal of a variable with this sign
abbrev pub literal : Bool → ℕ → Literal
literal positive variable = record { variable = variable; positive = positive }

-- the literal that the word spells
abbrev pub literal_in : List ℕ → Option Literal
literal_in [] = None
literal_in (b ∷ bs) =
    if b == 45
    then option_map (literal false) (positive_within MAX_VARIABLE bs)
    else option_map (literal true) (positive_within MAX_VARIABLE (b ∷ bs))
