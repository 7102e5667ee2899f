use Rattle.std.proofs.Common.{sym, subst}
use Rattle.search_defs.specs.Ends.{IsTotal}
use Rattle.search_defs.specs.Solving.{Solving}
use Rattle.cdcl_log.proofs.solver.Solver.value.Goals as goal

-- each variable has a value
pub value-requires-clause-point : goal.value-requires-clause-point
value-requires-clause-point c = subst (λ (s : Solving). IsTotal s.trail) (sym c.self.view_is) c.requires.point
