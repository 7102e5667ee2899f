-- How much room cells take while they are made.
use Rattle.std.specs.Prelude.{◌*◌, ◌≤◌, List, length}
use Rattle.fabric_defs.specs.declared.limits.TheConstants.{MAX_PINS}
use Rattle.cell_defs.specs.Cells.{CellValue}
use Rattle.extract.specs.CellLists.{pins_in}
use Rattle.lut_map.specs.declared.made.TheConstants.{MAX_CELLS}

-- there are so few cells and pins that their numbers fit
pub record IsRoomy (cells : List CellValue) : Type 0 where
  pub few_cells : length cells ≤ MAX_CELLS
  pub few_pins : pins_in cells ≤ MAX_PINS * length cells
