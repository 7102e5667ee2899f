use Rattle.trace_text_laws.proofs.TracesRead.{trace_in-text}
use Rattle.trace_text_laws.proofs.TracesWritten.{text-trace_in}
use Rattle.trace_text_laws.proofs.laws.trace_of_a_text_is_computed.Goals as goal

pub returns : goal.returns
returns c text v t = (trace_in-text text v t, text-trace_in text v t)
