use Rattle.std.proofs.Common.{◌≡◌, [], take}
use Rattle.log_defs.specs.LogTraces.{trace_of}
use Rattle.proof_log.proofs.trace.trace_of_originals.Given as goal

abbrev pub invariant-loop-k : goal.invariant-loop-k
invariant-loop-k l = l.trace ≡ trace_of (take l.k l.originals.clauses) []
