use Rattle.clause_laws.proofs.CompactTraces.{IsTrace-compacted, compacted_refutes, compacted_same}
use Rattle.clause_laws.proofs.laws.compacted_trace_refutes.Goals as goal

pub returns : goal.returns
returns c = record { trace = IsTrace-compacted; refutes = compacted_refutes; same = compacted_same }
