-- Numbers as words, for those who write tables.
use Rattle.std.specs.Prelude.{ℕ, zero, suc, ◌/◌, ◌%◌, ◌^◌, List, [], ◌∷◌, ◌++◌}
use Rattle.fabric_defs.specs.declared.limits.TheConstants.{WORD_BITS}

-- the n least words of a number, the most significant one first
abbrev pub words_of : ℕ → ℕ → List ℕ
words_of zero number = []
words_of (suc n) number = words_of n (number / 2 ^ WORD_BITS) ++ number % 2 ^ WORD_BITS ∷ []
