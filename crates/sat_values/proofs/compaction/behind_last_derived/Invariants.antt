use Rattle.std.proofs.Common.{◌≡◌, ℕ, ◌≤◌, [], length}
use Rattle.clause_defs.specs.Traces.{antecedents_at}
use Rattle.sat_values.proofs.compaction.behind_last_derived.Given as goal

-- from this place on no clause is derived
abbrev pub invariant-loop-last : goal.invariant-loop-last
invariant-loop-last l = record {
  within : l.last ≤ length l.t;
  none : (k : ℕ) → l.last ≤ k → antecedents_at l.t k ≡ [];
}

-- how many clauses were not looked at
abbrev pub decreases-loop-last : goal.decreases-loop-last
decreases-loop-last l = l.last
