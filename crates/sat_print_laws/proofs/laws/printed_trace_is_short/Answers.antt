use Rattle.sat_print_laws.proofs.TextLengths.{printed-short, compacted-short}
use Rattle.sat_print_laws.proofs.laws.printed_trace_is_short.Goals as goal

pub returns : goal.returns
returns c = record { as_it_is = printed-short; with_signs = compacted-short }
