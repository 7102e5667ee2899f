use Rattle.std.proofs.Common.{◌≡◌, ◌*◌, length}
use Rattle.fabric.specs.Evaluation.{HasChannel, HasCells}
use Rattle.fabric.proofs.evaluation.sweep.Given as goal

-- the channel and the cells before this column have the bits of the wiring
abbrev pub invariant-loop-column : goal.invariant-loop-column
invariant-loop-column l = record {
  tracks : length l.tracks ≡ length l.fn.tracks;
  places : length l.cells ≡ length l.fn.cells;
  channel : HasChannel l.config l.fn.x l.column l.tracks;
  cells : HasCells l.config l.fn.x (l.column * l.config.geometry.rows) l.cells;
}
