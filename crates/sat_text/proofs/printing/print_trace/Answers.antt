use Rattle.std.proofs.Common.{◌<◌, length, arith}
use Rattle.sat_text_defs.specs.Printed.{trace_text}
use Rattle.sat_text.proofs.Pieces.{entry_more}
use Rattle.sat_text.proofs.printing.print_trace.Goals as goal

-- one more line was printed
pub loop-k-preserved : goal.loop-k-preserved
loop-k-preserved c =
    let within : c.loop-k.k < length c.args.t.now = omega (arith, c.len-k-end.ensures.len) in
    entry_more c.args.t.now c.loop-k.k c.loop-k.out.items c.print_entry.new.out.items (trace_text c.args.t.now)
    within c.in_ok-print_entry.ensures c.loop-k.invariant
