use Rattle.std.proofs.Common.{◌≡◌, ℕ, ◌+◌, ◌<◌, length, slice_index}
use Rattle.eval_lanes.proofs.places.name_first_channel.Given as goal

abbrev pub invariant-loop-t : goal.invariant-loop-t
invariant-loop-t l = record {
  places : length l.tracks ≡ length l.fn.tracks;
  off : slice_index l.tracks 0 ≡ 0;
  done : (i : ℕ) → i < l.t → slice_index l.tracks (i + 1) ≡ slice_index l.words i;
}
