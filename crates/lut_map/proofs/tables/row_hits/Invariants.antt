use Rattle.std.proofs.Common.{◌≡◌, drop}
use Rattle.net_defs.specs.Evaluation.{hits}
use Rattle.lut_map.proofs.tables.row_hits.Given as goal

abbrev pub invariant-loop-i : goal.invariant-loop-i
invariant-loop-i l = hits (drop l.i l.row) (drop l.i l.bits) ≡ hits l.row l.bits
