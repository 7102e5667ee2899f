use Rattle.cell_laws.proofs.CellEquations.{bits-exist, bits-unique}
use Rattle.cell_laws.proofs.laws.bits_exist.Goals as goal

-- the bits are found in the order of the cells
pub returns-clause-exist : goal.returns-clause-exist
returns-clause-exist c = bits-exist

-- two lists of bits agree from the first cell on
pub returns-clause-unique : goal.returns-clause-unique
returns-clause-unique c = bits-unique
