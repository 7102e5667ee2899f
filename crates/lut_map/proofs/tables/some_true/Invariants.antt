use Rattle.std.proofs.Common.{◌≡◌, drop}
use Rattle.map_defs.specs.Gates.{some_true}
use Rattle.lut_map.proofs.tables.some_true.Given as goal

abbrev pub invariant-loop-i : goal.invariant-loop-i
invariant-loop-i l = some_true (drop l.i l.terms) (drop l.i l.bits) ≡ some_true l.terms l.bits
