use Rattle.std.proofs.Common.{◌≡◌, ◌+◌, ◌-◌}
use Rattle.log_defs.specs.Logs.{Words, Extends}
use Rattle.search_defs.specs.Solving.{IsSolving, never_back_of}
use Rattle.cdcl_log.proofs.solver.Solver.solve.Given as goal

-- the log grew, and the search keeps what it keeps
abbrev pub invariant-loop-number : goal.invariant-loop-number
invariant-loop-number l = record {
  solving : IsSolving l.log l.self;
  log : Extends l.fn.log l.log;
  limit : l.self.limit ≡ l.fn.self.limit;
}

-- fewer words are left, or fewer clauses that were never put back
abbrev pub decreases-loop-number : goal.decreases-loop-number
decreases-loop-number l = l.self.limit - Words l.log.derived + never_back_of l.self.standings
