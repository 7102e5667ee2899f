use Rattle.std.proofs.Common.{sym, subst}
use Rattle.settled_levels.specs.Levels.{IsSettledBelow}
use Rattle.search_defs.specs.Solving.{Solving, IsSolving}
use Rattle.search_defs.proofs.PointLemmas.{point_reached}
use Rattle.cdcl_log.proofs.solver.Solver.solve.Goals as goal

-- the levels that were left are settled
pub descend-requires : goal.descend-requires
descend-requires c = record { settled = subst (λ (s : Solving). IsSettledBelow s.trail) (sym c.self.view_is) c.loop-number.invariant.solving.settled }

-- where each variable has a value, the search found a point
pub returns-clause-end : goal.returns-clause-end
returns-clause-end c =
    point_reached c.loop-number.log c.descend.new.self
    (c.descend.ensures.solving c.loop-number.log (subst (IsSolving c.loop-number.log) (sym c.self.view_is) c.loop-number.invariant.solving))
    c.in_default.ensures.total c.in_default.ensures.satisfied
