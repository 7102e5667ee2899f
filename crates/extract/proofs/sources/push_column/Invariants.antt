use Rattle.std.proofs.Common.{◌≡◌}
use Rattle.extract.specs.Walks.{cells_before}
use Rattle.extract.proofs.sources.push_column.Given as goal

-- the cells before this row's are listed
abbrev pub invariant-loop-row : goal.invariant-loop-row
invariant-loop-row l = l.cells ≡ cells_before l.config l.column l.row
