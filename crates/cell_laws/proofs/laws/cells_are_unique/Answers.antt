use Rattle.cell_laws.proofs.CellsUniqueness.{cells-unique}
use Rattle.cell_laws.proofs.laws.cells_are_unique.Goals as goal

-- the cells are the same one by one, and each cone is in the other
pub returns : goal.returns
returns c = cells-unique
