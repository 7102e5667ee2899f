use Rattle.sat_print_laws.proofs.PrintedTraces.{printed-text}
use Rattle.sat_print_laws.proofs.laws.printed_trace_is_read_again.Goals as goal

pub returns : goal.returns
returns c = printed-text
