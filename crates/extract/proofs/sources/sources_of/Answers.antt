use Rattle.std.proofs.Common.{◌≡◌, ap, ◌∙◌, arith}
use Rattle.fabric_defs.specs.Geometries.{GeometryValue}
use Rattle.extract.specs.Walks.{tapped_sources}
use Rattle.extract.proofs.WalkLemmas.{pads_tapped, all_passed}
use Rattle.extract.proofs.sources.sources_of.Goals as goal

-- behind the last column all cells and output pads have their sources
pub returns : goal.returns
returns c = λ cone.
    let config = c.args.config.now in
    let columns = c.c-column-end.ensures.value ∙ ap (λ (g : GeometryValue). g.columns) c.geometry-g.ensures.value in
    let all : c.loop-column.column ≡ config.geometry.columns = omega (arith, columns) in
    let outputs = c.in_ok-tap.ensures
    ∙ ap (λ ts. tapped_sources ts c.output_pads.result.now) c.deref-2.ensures.value
    ∙ pads_tapped config c.loop-column.column c.loop-column.tracks.items c.output_pads.result.now c.geometry-g.ensures.known all
    c.loop-column.invariant.channel c.output_pads.ensures.value in
    all_passed config c.loop-column.column c.loop-column.cells c.tap.new.sources.items cone all c.loop-column.invariant.cells outputs
