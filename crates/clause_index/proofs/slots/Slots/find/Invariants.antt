use Rattle.std.proofs.Common.{◌≡◌, ◌≢◌, ℕ, ◌-◌, ◌<◌, ◌≤◌, get_or}
use Rattle.clause_index.specs.Runs.{clause_at}
use Rattle.clause_index.proofs.slots.Slots.find.Given as goal

-- no slot of the group that was looked at has the clause
abbrev pub invariant-loop-slot : goal.invariant-loop-slot
invariant-loop-slot l = (s : ℕ) → l.first ≤ s → s < l.slot → 0 < get_or l.self.numbers.items s 0 → get_or l.self.tags.items s 0 ≡ l.tag
    → clause_at l.clauses.lists (get_or l.self.numbers.items s 0 - 1) ≢ l.lits
