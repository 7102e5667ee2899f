use Rattle.std.proofs.Common.{◌≡◌, ℕ, ◌+◌, ◌*◌, List, length}
use Rattle.fabric.specs.Evaluation.{HasChannel, HasCells}
use Rattle.fabric.proofs.evaluation.put_cells_in.Given as goal

-- the cells up to this row have the bits of the wiring
abbrev pub invariant-loop-row : goal.invariant-loop-row
invariant-loop-row l = record {
  places : length l.cells ≡ length l.fn.cells;
  done : (x : List ℕ) → HasChannel l.config x l.column l.tracks
      → HasCells l.config x (l.column * l.config.geometry.rows) l.fn.cells
      → HasCells l.config x (l.column * l.config.geometry.rows + l.row) l.cells;
}
