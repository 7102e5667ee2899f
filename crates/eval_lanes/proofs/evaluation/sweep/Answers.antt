use Rattle.std.proofs.Common.{◌≡◌, ℕ, subst, ap, arith}
use Rattle.fabric_defs.specs.Geometries.{GeometryValue}
use Rattle.eval_lanes.specs.Places.{NamesChannel}
use Rattle.eval_lanes.proofs.evaluation.sweep.Goals as goal

pub returns-clause-channel : goal.returns-clause-channel
returns-clause-channel g c =
    let columns = ap (λ (g : GeometryValue). g.columns) c.geometry.ensures.value in
    let all : c.loop-column.column ≡ c.args.config.now.geometry.columns = omega (arith, columns, c.c-column-end.ensures.value) in
    let P : ℕ → Type 0 = λ m. NamesChannel c.args.config.now m c.loop-column.tracks in
    subst P all c.loop-column.invariant.channel
