use Rattle.std.proofs.Common.{◌≡◌, ℕ, ◌<◌, length, slice_index}
use Rattle.std.specs.Int.{bit_at}
use Rattle.fabric_defs.specs.declared.limits.TheConstants.{MAX_SIDE}
use Rattle.lanes_defs.specs.Lanes.{lane}
use Rattle.lanes_defs.specs.declared.TheConstants.{LANES}
use Rattle.eval_lanes.specs.Blocks.{words_of}
use Rattle.eval_lanes.specs.Places.{cell_bit}
use Rattle.eval_lanes.proofs.evaluation.column_blocks.Given as goal

abbrev pub invariant-loop-row : goal.invariant-loop-row
invariant-loop-row g l = record {
  count : length l.blocks ≡ MAX_SIDE;
  done : (k i j : ℕ) → k < l.row → i < g.W.Block.width → j < LANES
      → bit_at (slice_index (words_of g.W.Block.word l.blocks i) k) j
      ≡ cell_bit l.config (lane (words_of g.W.Block.word l.values i) j) l.tracks l.column k;
}
