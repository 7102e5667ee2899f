use Rattle.fabric_defs.specs.Layout.{column_place}
use Rattle.fabric.specs.Ranges.{AreInRange}
use Rattle.fabric.proofs.ranges.judge.Given as goal

-- the words before this column are in their ranges
abbrev pub invariant-loop-column : goal.invariant-loop-column
invariant-loop-column l = AreInRange l.g l.words (column_place l.g l.column)
