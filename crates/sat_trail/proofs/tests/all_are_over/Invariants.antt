use Rattle.std.proofs.Common.{take}
use Rattle.clause_defs.specs.Clauses.{Lits, Has, WithinVariables}
use Rattle.sat_trail.proofs.tests.all_are_over.Given as goal

abbrev pub invariant-loop-k : goal.invariant-loop-k
invariant-loop-k l = (c : Lits) → Has (take l.k l.list) c → WithinVariables l.variables c
