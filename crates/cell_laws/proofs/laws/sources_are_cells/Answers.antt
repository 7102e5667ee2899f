use Rattle.cell_laws.proofs.CellsLemmas.{cells_of_config}
use Rattle.cell_laws.proofs.laws.sources_are_cells.Goals as goal

-- a track comes from a pad or an earlier column
pub returns : goal.returns
returns c = cells_of_config
