use Rattle.std.proofs.Common.{length, ◌-◌, ◌<◌, ◌≤◌, ℕ, slice_index}
use Rattle.tracks.proofs.choice.free_from.Given as goal

abbrev pub invariant-loop-track : goal.invariant-loop-track
invariant-loop-track l = record {
  from : l.fn.from ≤ l.track;
  within : l.track ≤ length l.ends;
  before : (j : ℕ) → l.fn.from ≤ j → j < l.track → l.channel < slice_index l.ends j;
}

abbrev pub decreases-loop-track : goal.decreases-loop-track
decreases-loop-track l = length l.ends - l.track
