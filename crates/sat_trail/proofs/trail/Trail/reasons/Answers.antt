use Rattle.std.proofs.Common.{ap, arith}
use Rattle.trail_defs.specs.Trails.{Assigned}
use Rattle.sat_trail.proofs.trail.Trail.reasons.Goals as goal

-- there is one for each variable
pub returns-clause-size : goal.returns-clause-size
returns-clause-size c =
    let size = c.self.invariant.0.marked.reason_size in
    let seen = ap (λ (a : Assigned). a.variables) c.self.view_is in
    omega arith
