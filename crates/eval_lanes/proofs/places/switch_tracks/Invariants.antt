use Rattle.std.proofs.Common.{◌≡◌, ℕ, ◌+◌, ◌<◌, ◌≤◌, length, slice_index}
use Rattle.fabric_defs.specs.Wirings.{switched_bit}
use Rattle.eval_lanes.proofs.places.switch_tracks.Given as goal

abbrev pub invariant-loop-t : goal.invariant-loop-t
invariant-loop-t l = record {
  places : length l.tracks ≡ length l.fn.tracks;
  off : slice_index l.tracks 0 ≡ slice_index l.fn.tracks 0;
  left : (i : ℕ) → l.t ≤ i → slice_index l.tracks (i + 1) ≡ slice_index l.fn.tracks (i + 1);
  done : (i : ℕ) → i < l.t → slice_index l.tracks (i + 1)
      ≡ switched_bit (slice_index l.fn.tracks (i + 1)) (λ row. l.first + row) (slice_index l.words i);
}
