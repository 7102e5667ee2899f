use Rattle.cell_laws.proofs.CellsExistence.{cells_exist}
use Rattle.cell_laws.proofs.laws.configuration_has_cells.Goals as goal

-- the cells by number, with the cells that are reached as their cone
pub returns : goal.returns
returns c = cells_exist
