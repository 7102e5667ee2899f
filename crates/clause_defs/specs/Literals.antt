-- A literal is a variable, counted from 1, or its negation. (DIMACS CNF)
use Rattle.std.specs.Prelude.{ℕ, ◌+◌, ◌*◌, ◌≤◌, Bool, not, if◌then◌else◌}
use Rattle.clause_defs.specs.declared.verdict.TheConstants.{MAX_VARIABLE}

-- a variable, where `positive` is true, or else its negation
pub record Literal : Type 0 where
  pub variable : ℕ
  pub positive : Bool

-- the same variable with the other sign
abbrev pub negation : Literal → Literal
negation l = record { variable = l.variable; positive = not l.positive }

-- the number of a literal: literals are ordered by it, so by variable, the negative one first
abbrev pub code : Literal → ℕ
code l = 2 * l.variable + (if l.positive then 1 else 0)

-- a literal whose variable is within the limits
abbrev pub IsLiteral : Literal → Type 0
IsLiteral l = (1 ≤ l.variable) × (l.variable ≤ MAX_VARIABLE)
