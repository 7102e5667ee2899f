use Rattle.std.proofs.Common.{◌≡◌, ℕ, ◌+◌, ◌<◌, length, slice_index}
use Rattle.fabric_defs.specs.Wirings.{pad_bit}
use Rattle.fabric.proofs.evaluation.put_first_channel.Given as goal

-- the tracks so far have the bits of their pads, and off has 0
abbrev pub invariant-loop-t : goal.invariant-loop-t
invariant-loop-t l = record {
  places : length l.tracks ≡ length l.fn.tracks;
  off : slice_index l.tracks 0 ≡ 0;
  done : (j : ℕ) → j < l.t → slice_index l.tracks (j + 1) ≡ pad_bit l.x (slice_index l.words j);
}
