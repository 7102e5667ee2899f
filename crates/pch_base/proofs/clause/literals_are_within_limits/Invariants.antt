use Rattle.std.proofs.Common.{take}
use Rattle.clause_defs.specs.Literals.{Literal, IsLiteral}
use Rattle.clause_defs.specs.Clauses.{Has}
use Rattle.pch_base.proofs.clause.literals_are_within_limits.Given as goal

-- the literals so far are within the limits
abbrev pub invariant-loop-l : goal.invariant-loop-l
invariant-loop-l l = (x : Literal) → Has (take l.l-index l.lits) x → IsLiteral x
