use Rattle.std.proofs.Common.{◌≡◌, ◌++◌, map, take}
use Rattle.lut_map.specs.LutCells.{lut_cell}
use Rattle.lut_map.proofs.made.Made.push_all.Given as goal

abbrev pub invariant-loop-cell : goal.invariant-loop-cell
invariant-loop-cell l = l.self ≡ l.fn.self ++ map lut_cell (take l.cell-index l.cells)
