use Rattle.std.proofs.Common.{◌≡◌, ◌+◌, ℕ, length, take, slice_index}
use Rattle.needs.specs.Counts.{begun, ended}
use Rattle.needs.proofs.channels.count_turns.Given as goal

abbrev pub invariant-loop-span : goal.invariant-loop-span
invariant-loop-span l = record {
  begins : length l.begins.items ≡ l.channels;
  ends : length l.ends.items ≡ l.channels + 1;
  begun_so_far : (c : ℕ) → slice_index l.begins.items c ≡ begun (take l.span-index l.spans) c;
  ended_so_far : (c : ℕ) → slice_index l.ends.items c ≡ ended (take l.span-index l.spans) c;
}
