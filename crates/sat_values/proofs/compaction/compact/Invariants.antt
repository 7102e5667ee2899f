use Rattle.std.proofs.Common.{◌≡◌, ◌++◌, drop}
use Rattle.clause_defs.specs.Compaction.{compacted}
use Rattle.sat_values.proofs.compaction.compact.Given as goal

-- what was compacted, with the clauses that are left, is the compacted trace
abbrev pub invariant-loop-k : goal.invariant-loop-k
invariant-loop-k l = l.short ++ compacted (drop l.k l.fn.t) ≡ compacted l.fn.t
