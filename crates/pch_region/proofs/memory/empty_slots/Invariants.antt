use Rattle.std.proofs.Common.{◌≡◌, ◌≤◌, replicate, vec_capacity, None}
use Rattle.pch_region.proofs.memory.empty_slots.Given as goal

abbrev pub invariant-loop-k : goal.invariant-loop-k
invariant-loop-k l = record {
  copies : l.slots.items ≡ replicate l._k None;
  room : l.blocks ≤ vec_capacity l.slots;
}
