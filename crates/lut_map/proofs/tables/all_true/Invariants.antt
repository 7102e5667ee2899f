use Rattle.std.proofs.Common.{◌≡◌, drop}
use Rattle.map_defs.specs.Gates.{all_true}
use Rattle.lut_map.proofs.tables.all_true.Given as goal

abbrev pub invariant-loop-i : goal.invariant-loop-i
invariant-loop-i l = all_true (drop l.i l.terms) (drop l.i l.bits) ≡ all_true l.terms l.bits
