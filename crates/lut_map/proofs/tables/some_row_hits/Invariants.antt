use Rattle.std.proofs.Common.{◌≡◌, false, take}
use Rattle.std.specs.List.{list_any}
use Rattle.net_defs.specs.Evaluation.{hits}
use Rattle.lut_map.proofs.tables.some_row_hits.Given as goal

abbrev pub invariant-loop-row : goal.invariant-loop-row
invariant-loop-row l = list_any (λ row. hits row l.bits) (take l.row-index l.rows) ≡ false
