use Rattle.std.proofs.Common.{◌≡◌, drop}
use Rattle.net_defs.specs.Evaluation.{hits, bits_at}
use Rattle.netlist.proofs.eval.row_hits.Given as goal

-- the rest of the row hits exactly where the whole row does
abbrev pub invariant-loop-i : goal.invariant-loop-i
invariant-loop-i l = hits (drop l.i l.row) (bits_at l.s (drop l.i l.fan_ins)) ≡ hits l.row (bits_at l.s l.fan_ins)
