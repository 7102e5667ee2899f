use Rattle.std.proofs.Common.{◌≡◌, ℕ, ◌<◌, length, slice_index}
use Rattle.fabric.proofs.evaluation.output_bits.Given as goal

-- the pads so far have the bits of the tracks that they tap
abbrev pub invariant-loop-pad : goal.invariant-loop-pad
invariant-loop-pad l = record {
  count : length l.bits ≡ l.count;
  done : (j : ℕ) → j < l.pad → slice_index l.bits j ≡ slice_index l.tracks (slice_index l.words j);
}
