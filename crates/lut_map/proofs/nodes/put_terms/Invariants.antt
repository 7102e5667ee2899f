use Rattle.std.proofs.Common.{◌≡◌, ◌≤◌, ◌++◌, length, drop}
use Rattle.map_defs.specs.NodeCells.{row_terms}
use Rattle.lut_map.proofs.nodes.put_terms.Given as goal

abbrev pub invariant-loop-pin : goal.invariant-loop-pin
invariant-loop-pin l = record {
  terms : l.terms.items ++ row_terms l.pin (drop l.pin l.row) ≡ row_terms 0 l.row;
  few : length l.terms.items ≤ l.pin;
}
