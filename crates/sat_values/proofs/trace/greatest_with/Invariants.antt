use Rattle.std.proofs.Common.{◌≡◌, max, take, drop}
use Rattle.clause_defs.specs.Literals.{Literal, IsLiteral}
use Rattle.clause_defs.specs.Clauses.{Has}
use Rattle.sat_values.specs.TraceArrays.{greatest_of}
use Rattle.sat_values.proofs.trace.greatest_with.Given as goal

-- the greatest so far, with the literals that are left, is the greatest of all
abbrev pub invariant-loop-l : goal.invariant-loop-l
invariant-loop-l l = record {
  greatest : max l.greatest (greatest_of (drop l.l-index l.lits)) ≡ max l.fn.first (greatest_of l.lits);
  literals : (x : Literal) → Has (take l.l-index l.lits) x → IsLiteral x;
}
