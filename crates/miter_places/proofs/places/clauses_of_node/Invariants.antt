use Rattle.std.proofs.Common.{◌≡◌, ◌+◌, length}
use Rattle.fabric_defs.specs.Numbered.{joined}
use Rattle.miter_places.specs.Places.{row_clauses}
use Rattle.miter_places.proofs.places.clauses_of_node.Given as goal

abbrev pub invariant-loop-row : goal.invariant-loop-row
invariant-loop-row l = l.count ≡ 1 + l.row-index + length (joined l.row-index (row_clauses l.fn.net l.fn.v))
