use Rattle.std.proofs.Common.{◌≡◌, ℕ, ◌<◌, length, slice_index}
use Rattle.eval_lanes.proofs.evaluation.eval64.Given as goal

abbrev pub invariant-loop-pad : goal.invariant-loop-pad
invariant-loop-pad l = record {
  places : length l.out ≡ length l.fn.out;
  done : (i : ℕ) → i < l.pad
      → slice_index l.out i ≡ slice_index l.w-inside.words (slice_index l.w-inside.tracks (slice_index l.pads i));
}
