-- What the cells of a fabric keep.
use Rattle.std.specs.Prelude.{Bool, List}
use Rattle.fabric_defs.specs.Geometries.{GeometryValue}
use Rattle.cell_defs.specs.declared.source.Source.{Source}
use Rattle.cell_defs.specs.Cells.{CellValue, CellsValue, AreCells}
use Rattle.cell_defs.specs.Cones.{HasCone}

-- the cells of a fabric of this geometry, by their parts
abbrev pub cells_with : GeometryValue → List CellValue → List Source → List Bool → CellsValue
cells_with g cells outputs cone =
    record { geometry = g; cells = cells; outputs = outputs; cone = cone }

-- the cells of a fabric with their cone
pub record AreCellsWithCone (whole : CellsValue) : Type 0 where
  pub cells : AreCells whole
  pub cone : HasCone whole
