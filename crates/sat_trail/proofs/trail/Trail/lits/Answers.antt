use Rattle.std.proofs.Common.{ap, arith}
use Rattle.trail_defs.specs.Trails.{Assigned}
use Rattle.sat_trail.proofs.trail.Trail.lits.Goals as goal

pub returns-clause-clause : goal.returns-clause-clause
returns-clause-clause c = (c.self.invariant.0.over c.from_name.result.name c.get.result.now c.get.ensures).0

pub returns-clause-within : goal.returns-clause-within
returns-clause-within c l has =
    let within = (c.self.invariant.0.over c.from_name.result.name c.get.result.now c.get.ensures).1 l has in
    let seen = ap (λ (a : Assigned). a.variables) c.self.view_is in
    omega arith
