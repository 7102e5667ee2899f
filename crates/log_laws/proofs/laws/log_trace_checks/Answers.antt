use Rattle.log_laws.proofs.TraceOfLemmas.{trace_right, trace_refutes}
use Rattle.log_laws.proofs.laws.log_trace_checks.Goals as goal

pub returns : goal.returns
returns c = record { right = trace_right; refutes = trace_refutes }
