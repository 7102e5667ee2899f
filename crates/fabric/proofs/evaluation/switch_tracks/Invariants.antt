use Rattle.std.proofs.Common.{◌≡◌, ℕ, ◌+◌, ◌*◌, ◌<◌, ◌≤◌, List, length, slice_index}
use Rattle.fabric_defs.specs.Wirings.{Wiring, Wired, channel}
use Rattle.fabric.specs.Evaluation.{HasChannel, HasCells}
use Rattle.fabric.proofs.evaluation.switch_tracks.Given as goal

-- the tracks so far have the bits of the next channel, and the others those of this one
abbrev pub invariant-loop-t : goal.invariant-loop-t
invariant-loop-t l = record {
  places : length l.tracks ≡ length l.fn.tracks;
  off : slice_index l.tracks 0 ≡ slice_index l.fn.tracks 0;
  left : (j : ℕ) → l.t ≤ j → slice_index l.tracks (j + 1) ≡ slice_index l.fn.tracks (j + 1);
  done : (x : List ℕ) (w : Wiring) → HasChannel l.config x l.column l.fn.tracks
      → HasCells l.config x ((l.column + 1) * l.config.geometry.rows) l.cells → Wired l.config x w
      → (j : ℕ) → j < l.t → slice_index l.tracks (j + 1) ≡ slice_index (channel w (l.column + 1)) j;
}
