-- Literals as numbers. (DIMACS CNF)
use Rattle.std.specs.Prelude.{ℕ, ◌/◌, ◌%◌, ◌==◌, ℤ, pos, neg_ℤ, if◌then◌else◌}
use Rattle.clause_defs.specs.Literals.{Literal}

-- the literal whose code is n: the code is twice the variable, plus one where the literal is positive
abbrev pub literal_of : ℕ → Literal
literal_of n = record { variable = n / 2; positive = n % 2 == 1 }

-- the number that a text writes for a literal: its variable, or the negative of it
abbrev pub value_of : Literal → ℤ
value_of l = if l.positive then pos l.variable else neg_ℤ (pos l.variable)
