use Rattle.std.proofs.Common.{◌≡◌, ℕ, ◌-◌, ◌^◌, ◌<◌, length, map, slice_index}
use Rattle.std.specs.Int.{bit_at}
use Rattle.lanes_defs.specs.Lanes.{lane}
use Rattle.lanes_defs.specs.declared.TheConstants.{LANES}
use Rattle.eval_lanes.specs.Blocks.{words_of}
use Rattle.eval_lanes.specs.Levels.{IsLevel}
use Rattle.eval_lanes.specs.Places.{seen_bit}
use Rattle.eval_lanes.proofs.cells.table_word.Given as goal

abbrev pub invariant-loop-m : goal.invariant-loop-m
invariant-loop-m g l = record {
  places : length l.level ≡ 32;
  half : l.half ≡ 2 ^ (length l.pins - l.m);
  level : (i j : ℕ) → i < g.W.Block.width → j < LANES
      → IsLevel l.table (map (seen_bit (lane (words_of g.W.Block.word l.values i) j) l.tracks) l.pins) l.m l.half
      (λ k. bit_at (slice_index (words_of g.W.Block.word l.level i) k) j);
}
