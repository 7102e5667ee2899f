use Rattle.std.proofs.Common.{◌≡◌, ℕ, ◌+◌, ◌*◌, ◌<◌, List, length}
use Rattle.eval_lanes.specs.Blocks.{words_of}
use Rattle.eval_lanes.specs.Places.{HaveValues}
use Rattle.eval_lanes.proofs.evaluation.put_cells_of.Given as goal

abbrev pub invariant-loop-row : goal.invariant-loop-row
invariant-loop-row g l = record {
  places : length l.values ≡ length l.fn.values;
  done : (i : ℕ) (inputs : ℕ → List ℕ) → i < g.W.Block.width
      → HaveValues l.config inputs (l.column * l.config.geometry.rows) (words_of g.W.Block.word l.fn.values i)
      → HaveValues l.config inputs (l.column * l.config.geometry.rows + l.row) (words_of g.W.Block.word l.values i);
}
