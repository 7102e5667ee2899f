-- Formulas: clauses over a number of variables. (DIMACS CNF)
use Rattle.std.specs.Prelude.{ℕ, List}
use Rattle.clause_defs.specs.Clauses.{Lits}

-- a number of variables, and clauses over them, numbered from 1
pub record Formula : Type 0 where
  pub variables : ℕ
  pub clauses : List Lits
