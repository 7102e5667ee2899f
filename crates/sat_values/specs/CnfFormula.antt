-- A CNF as a formula.
use Rattle.sat_values.specs.declared.cnf.Cnf.{Cnf}
use Rattle.clause_defs.specs.Formulas.{Formula}

-- the formula that the CNF is
abbrev pub formula_of : Cnf → Formula
formula_of c = record { variables = c.variables; clauses = c.clauses }
