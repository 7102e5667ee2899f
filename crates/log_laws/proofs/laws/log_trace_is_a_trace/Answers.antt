use Rattle.log_laws.proofs.LogTraces.{log_trace, trace_of-AllStated}
use Rattle.log_laws.proofs.laws.log_trace_is_a_trace.Goals as goal

pub returns : goal.returns
returns c = record { is_trace = log_trace; stated = trace_of-AllStated }
