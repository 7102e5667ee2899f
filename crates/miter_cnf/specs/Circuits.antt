-- A network beside cells, with their numbering.
use Rattle.std.specs.Prelude.{◌≡◌}
use Rattle.net_defs.specs.Networks.{Network}
use Rattle.net_defs.specs.Nets.{IsNet}
use Rattle.cell_defs.specs.Cells.{CellsValue}
use Rattle.extract.specs.Kept.{AreCellsWithCone}
use Rattle.miter_defs.specs.Equality.{FitsPads}
use Rattle.miter_cnf.specs.Numbered.{NumberingValue, numbering_of}

-- a network and the cells of a configuration, of which the miter is made
pub record Circuits : Type 0 where
  pub net : Network
  pub cells : CellsValue

-- a net and the cells of a fabric that has a pad for each of its inputs and outputs
pub record AreCircuits (net : Network) (cells : CellsValue) : Type 0 where
  pub is_net : IsNet net
  pub are_cells : AreCellsWithCone cells
  pub fits : FitsPads net cells.geometry

-- and the numbering of these two
pub record AreNumbered (net : Network) (cells : CellsValue) (m : NumberingValue) : Type 0 where
  pub numbering : m ≡ numbering_of net cells
  pub circuits : AreCircuits net cells
