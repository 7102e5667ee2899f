use Rattle.fabric_defs.specs.Layout.{cell_place}
use Rattle.fabric.specs.Ranges.{AreInRange}
use Rattle.fabric.proofs.ranges.judge_column.Given as goal

-- the words before this row's cell are in their ranges
abbrev pub invariant-loop-row : goal.invariant-loop-row
invariant-loop-row l = AreInRange l.g l.words (cell_place l.g l.column l.row)
