use Rattle.std.proofs.Common.{◌≤◌, take}
use Rattle.clause_defs.specs.Literals.{Literal}
use Rattle.clause_defs.specs.Clauses.{Has}
use Rattle.sat_trail.proofs.tests.are_over.Given as goal

abbrev pub invariant-loop-m : goal.invariant-loop-m
invariant-loop-m l = (m : Literal) → Has (take l.m-index l.lits) m → m.variable ≤ l.variables
