use Rattle.trace_text_laws.proofs.TracesRead.{trace_in-fault}
use Rattle.trace_text_laws.proofs.FaultsRead.{fault-trace_in}
use Rattle.trace_text_laws.proofs.laws.fault_of_a_trace_text_is_computed.Goals as goal

pub returns : goal.returns
returns c text v f = (trace_in-fault text v f, fault-trace_in text v f)
