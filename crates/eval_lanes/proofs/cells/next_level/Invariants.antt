use Rattle.std.proofs.Common.{◌≡◌, ℕ, ◌+◌, ◌*◌, ◌<◌, ◌≤◌, length, slice_index}
use Rattle.eval_lanes.specs.Blocks.{words_of}
use Rattle.eval_lanes.specs.Levels.{mux}
use Rattle.eval_lanes.proofs.cells.next_level.Given as goal

abbrev pub invariant-loop-k : goal.invariant-loop-k
invariant-loop-k g l = record {
  places : length l.level ≡ 32;
  left : (k i : ℕ) → l.k ≤ k → i < g.W.Block.width
      → slice_index (words_of g.W.Block.word l.level i) k ≡ slice_index (words_of g.W.Block.word l.fn.level i) k;
  done : (k i : ℕ) → k < l.k → i < g.W.Block.width → slice_index (words_of g.W.Block.word l.level i) k
      ≡ mux (slice_index (words_of g.W.Block.word l.fn.level i) (2 * k + 1)) (slice_index (words_of g.W.Block.word l.fn.level i) (2 * k)) (g.W.Block.word l.pin i);
}
