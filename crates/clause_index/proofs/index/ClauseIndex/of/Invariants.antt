use Rattle.std.proofs.Common.{vec_capacity}
use Rattle.clause_index.specs.Index.{IsIndex}
use Rattle.clause_index.proofs.index.ClauseIndex.of.Given as goal

-- the first k clauses are indexed
abbrev pub invariant-loop-k : goal.invariant-loop-k
invariant-loop-k l = IsIndex l.clauses.lists l.slots.groups l.slots.tags.items l.slots.numbers.items l.runs.runs (vec_capacity l.runs.run) (vec_capacity l.runs.merged) l.len l.k
