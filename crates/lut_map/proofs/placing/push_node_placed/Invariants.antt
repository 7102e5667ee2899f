use Rattle.std.proofs.Common.{◌≡◌, ◌-◌, ◌≤◌, ◌++◌, map, take, drop}
use Rattle.map_defs.specs.Reference.{cell_in}
use Rattle.lut_map.specs.Parts.{source_by}
use Rattle.lut_map.proofs.placing.push_node_placed.Given as goal

abbrev pub invariant-loop-k : goal.invariant-loop-k
invariant-loop-k l = record {
  from : l.first ≤ l.k;
  made : l.cells ≡ l.fn.cells
      ++ map (cell_in (source_by l.inputs l.ends) l.fan_ins l.first) (take (l.k - l.first) (drop l.first l.own));
}
