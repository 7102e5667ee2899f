-- Lists of clauses. (DIMACS CNF)
use Rattle.std.specs.Prelude.{ℕ, ◌≤◌, List, length}
use Rattle.clause_defs.specs.declared.verdict.TheConstants.{MAX_VARIABLE, MAX_CLAUSES}
use Rattle.clause_defs.specs.Clauses.{Lits, Has, IsClause, WithinVariables}

-- what every list of clauses keeps
pub record AreClauses (f : List Lits) : Type 0 where
  pub clauses : (c : Lits) → Has f c → IsClause c
  pub few : length f ≤ MAX_CLAUSES

-- what every list of clauses over this number of variables keeps
pub record AreClausesOver (variables : ℕ) (f : List Lits) : Type 0 where
  pub clauses : AreClauses f
  pub few_variables : variables ≤ MAX_VARIABLE
  pub within : (c : Lits) → Has f c → WithinVariables variables c
