use Rattle.std.proofs.Common.{◌≡◌, ℕ, ◌+◌, ◌<◌, ◌≤◌, get_or}
use Rattle.trace_places.proofs.groups.Groups.find.Given as goal

-- no slot of the group that was looked at has the index
abbrev pub invariant-loop-slot : goal.invariant-loop-slot
invariant-loop-slot l = (s k : ℕ) → l.first ≤ s → s < l.slot → get_or l.self.tags.items s 0 ≡ l.tag → get_or l.self.numbers.items s 0 ≡ k + 1
    → get_or l.indices k 0 ≡ l.index → ⊥
