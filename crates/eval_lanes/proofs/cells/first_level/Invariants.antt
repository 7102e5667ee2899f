use Rattle.std.proofs.Common.{◌≡◌, ℕ, ◌+◌, ◌*◌, ◌<◌, length, slice_index}
use Rattle.std.specs.Int.{bit_at}
use Rattle.lanes_defs.specs.declared.TheConstants.{LANES}
use Rattle.eval_lanes.specs.Blocks.{words_of}
use Rattle.eval_lanes.proofs.cells.first_level.Given as goal

abbrev pub invariant-loop-k : goal.invariant-loop-k
invariant-loop-k g l = record {
  places : length l.level ≡ 32;
  done : (k i j : ℕ) → k < l.k → i < g.W.Block.width → j < LANES
      → bit_at (slice_index (words_of g.W.Block.word l.level i) k) j ≡ bit_at l.table (2 * k + bit_at (g.W.Block.word l.fn.pin i) j);
}
