use Rattle.std.proofs.Common.{◌≡◌, ℕ, ◌-◌, ◌<◌, ◌≤◌, length, get_or, vec_capacity}
use Rattle.pch_region.proofs.memory.all_names.Given as goal

abbrev pub invariant-loop-k : goal.invariant-loop-k
invariant-loop-k l = record {
  many : length l.names.items ≡ l.k;
  names : (j : ℕ) → j < l.k → get_or l.names.items j 0 ≡ l.blocks - 1 - j;
  room : l.blocks ≤ vec_capacity l.names;
}
