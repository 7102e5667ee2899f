use Rattle.miter_laws.proofs.Ranges.{clauses-range, clauses-IsClause, variable_count-le}
use Rattle.miter_laws.proofs.laws.clauses_are_clauses.Goals as goal

-- each literal has a variable that a clause may have
pub returns-clause-clauses : goal.returns-clause-clauses
returns-clause-clauses c = clauses-IsClause

-- and one of the miter
pub returns-clause-within : goal.returns-clause-within
returns-clause-within c net cells n d has m in_d = (clauses-range net cells n d has m in_d).1

-- signals, rows, cells and outputs are few enough
pub returns-clause-variables : goal.returns-clause-variables
returns-clause-variables c = variable_count-le
