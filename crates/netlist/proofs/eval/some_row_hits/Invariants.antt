use Rattle.std.proofs.Common.{◌≡◌, false, take}
use Rattle.std.specs.List.{list_any}
use Rattle.net_defs.specs.Evaluation.{hits, bits_at}
use Rattle.netlist.proofs.eval.some_row_hits.Given as goal

-- no row so far hits
abbrev pub invariant-loop-row : goal.invariant-loop-row
invariant-loop-row l = list_any (λ row. hits row (bits_at l.s l.fan_ins)) (take l.row-index l.rows) ≡ false
