use Rattle.std.proofs.Common.{subst}
use Rattle.trail_defs.specs.Trails.{IsTrail}
use Rattle.sat_trail.proofs.KeptLemmas.{kept_trail}
use Rattle.sat_trail.proofs.trail.Trail.literal_at.Goals as goal

pub returns-clause-known : goal.returns-clause-known
returns-clause-known c =
    subst IsTrail c.self.view_is (kept_trail c.self.inside.values.assignment.variables c.self.inside.originals c.self.inside.region.held c.self.inside.values.assignment.lits c.self.inside.values.levels.items c.self.inside.values.reasons.items
    c.self.inside.stages.items c.self.inside.done c.self.inside.watches.watch.items c.self.inside.watches.links c.self.invariant.0
    c.get.ensures.known c.self.inside.present c.self.inside.region.words c.self.invariant.2)
