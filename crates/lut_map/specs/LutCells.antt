-- Single cells, from which a list of mapped cells is made.
use Rattle.cell_defs.specs.Cells.{CellValue}
use Rattle.lut_map.specs.declared.lut_cell.LutCell.{LutCell}

-- the sources of its pins, and its table
abbrev pub lut_cell : LutCell → CellValue
lut_cell cell = record { pins = cell.pins.items; table = cell.table }
