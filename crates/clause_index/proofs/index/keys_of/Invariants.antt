use Rattle.std.proofs.Common.{◌≡◌, ℕ, ◌<◌, length, get_or}
use Rattle.clause_index.specs.Runs.{clause_at}
use Rattle.clause_index.specs.Slots.{tag_of}
use Rattle.clause_index.proofs.index.keys_of.Given as goal

-- the first k clauses have their keys
abbrev pub invariant-loop-k : goal.invariant-loop-k
invariant-loop-k l = record {
  many : length l.keys.items ≡ l.k;
  each : (j : ℕ) → j < l.k → get_or l.keys.items j 0 ≡ tag_of (clause_at l.clauses.lists j);
}
