use Rattle.std.proofs.Common.{◌≡◌, ℕ, ◌*◌, ◌<◌, List, length}
use Rattle.eval_lanes.specs.Blocks.{words_of}
use Rattle.eval_lanes.specs.Places.{NamesChannel, HaveValues}
use Rattle.eval_lanes.proofs.evaluation.sweep.Given as goal

abbrev pub invariant-loop-column : goal.invariant-loop-column
invariant-loop-column g l = record {
  places : length l.values ≡ length l.fn.values;
  channel : NamesChannel l.config l.column l.tracks;
  cells : (i : ℕ) (inputs : ℕ → List ℕ) → i < g.W.Block.width
      → HaveValues l.config inputs 0 (words_of g.W.Block.word l.fn.values i)
      → HaveValues l.config inputs (l.column * l.config.geometry.rows) (words_of g.W.Block.word l.values i);
}
