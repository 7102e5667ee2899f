use Rattle.std.proofs.Common.{◌≡◌, ◌<◌, ℕ, length, slice_index}
use Rattle.route_defs.specs.Spans.{need}
use Rattle.needs.proofs.Counting.{passed}
use Rattle.needs.proofs.channels.needs_of.Given as goal

abbrev pub invariant-loop-c : goal.invariant-loop-c
invariant-loop-c l = record {
  count : length l.needs.items ≡ l.c;
  running : l.live ≡ passed l.spans l.c;
  needs : (c : ℕ) → c < l.c → slice_index l.needs.items c ≡ need l.spans c;
}
