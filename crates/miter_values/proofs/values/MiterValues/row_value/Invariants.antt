use Rattle.miter_values.proofs.RowLemmas.{IsSoFar}
use Rattle.miter_values.proofs.values.MiterValues.row_value.Given as goal

-- all that the marks so far ask is so
abbrev pub invariant-loop-i : goal.invariant-loop-i
invariant-loop-i l = IsSoFar l.e l.marks l.fan_ins l.i l.asked
