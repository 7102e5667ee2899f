use Rattle.std.proofs.Common.{◌≡◌, ℕ, ◌+◌, ◌*◌, subst, ap, ◌∙◌, arith}
use Rattle.fabric_defs.specs.Geometries.{GeometryValue}
use Rattle.fabric.specs.Evaluation.{HasChannel, HasCells}
use Rattle.fabric.proofs.evaluation.sweep.Goals as goal

-- the cells of a column give the next channel its bits
pub loop-column-preserved : goal.loop-column-preserved
loop-column-preserved c =
    let h = c.loop-column.invariant in
    let cells : HasCells c.args.config.now c.args.x ((c.loop-column.column + 1) * c.args.config.now.geometry.rows) c.put_cells.new.cells =
    c.put_cells.ensures.cells c.args.x h.channel h.cells in
    record {
      tracks = c.switch_tracks.ensures.places ∙ h.tracks;
      places = c.put_cells.ensures.places ∙ h.places;
      channel = c.switch_tracks.ensures.channel c.args.x h.channel cells;
      cells = cells;
    }

-- behind the last column the tracks are those of the output pads
pub returns-clause-outputs : goal.returns-clause-outputs
returns-clause-outputs c = λ w wired.
    let columns = ap (λ (g : GeometryValue). g.columns) c.geometry.ensures.value in
    let all : c.loop-column.column ≡ c.args.config.now.geometry.columns = omega (arith, columns, c.c-column-end.ensures.value) in
    let P : ℕ → Type 0 = λ m. HasChannel c.args.config.now c.args.x m c.loop-column.tracks in
    c.output_bits.ensures c.args.x w (subst P all c.loop-column.invariant.channel) wired
