use Rattle.lut_map.proofs.RowLemmas.{AreRows}
use Rattle.lut_map.proofs.nodes.push_rows.Given as goal

abbrev pub invariant-loop-row : goal.invariant-loop-row
invariant-loop-row l = AreRows l.fn.cells l.first l.rows l.cells l.room.ends.items l.row-index
