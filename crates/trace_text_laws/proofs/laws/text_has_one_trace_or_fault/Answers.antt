use Rattle.trace_text_laws.proofs.OneReading.{trace_or_fault, only_trace, only_fault, never_both}
use Rattle.trace_text_laws.proofs.laws.text_has_one_trace_or_fault.Goals as goal

pub returns : goal.returns
returns c = record { some = trace_or_fault; one_trace = only_trace; one_fault = only_fault; not_both = never_both }
