use Rattle.std.proofs.Common.{◌≡◌}
use Rattle.map_defs.specs.Reference.{first_cell, cells_before}
use Rattle.lut_map.specs.Marks.{is_marked}
use Rattle.lut_map.proofs.placing.placed_cells.Given as goal

abbrev pub invariant-loop-v : goal.invariant-loop-v
invariant-loop-v l = record {
  first : l.first ≡ first_cell l.net (is_marked l.parts.needed.items) l.v;
  cells : l.cells ≡ cells_before l.net (is_marked l.parts.needed.items) l.v;
}
