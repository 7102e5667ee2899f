use Rattle.std.proofs.Common.{◌<◌, length, get_or, ap, ◌∙◌, arith}
use Rattle.std.proofs.lemmas.List.{get_or_read}
use Rattle.trail_defs.specs.Trails.{Assigned}
use Rattle.sat_trail.proofs.trail.Trail.level.Goals as goal

pub index-requires : goal.index-requires
index-requires c =
    let size = c.self.invariant.0.marked.level_size in
    let seen = ap (λ (a : Assigned). a.variables) c.self.view_is in
    let high = c.requires.high in
    omega arith

pub returns-clause-level : goal.returns-clause-level
returns-clause-level c =
    let size = c.self.invariant.0.marked.level_size in
    let seen = ap (λ (a : Assigned). a.variables) c.self.view_is in
    let high = c.requires.high in
    let lt : c.args.v < length c.self.inside.values.levels.items = omega arith in
    get_or_read c.self.inside.values.levels.items c.args.v c.index.result.now lt c.index.ensures 0 ∙ ap (λ (a : Assigned). get_or a.levels c.args.v 0) c.self.view_is
