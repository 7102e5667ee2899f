use Rattle.std.proofs.Common.{◌≡◌, ◌++◌, drop}
use Rattle.std.specs.List.{flat_map}
use Rattle.sat_text_defs.specs.Printed.{trace_line, trace_text}
use Rattle.sat_text.proofs.printing.print_trace.Given as goal

-- what was printed, with the lines of the clauses that are left, is the trace's text
abbrev pub invariant-loop-k : goal.invariant-loop-k
invariant-loop-k l = l.out.items ++ flat_map (trace_line l.t) (drop l.k l.t) ≡ trace_text l.t
