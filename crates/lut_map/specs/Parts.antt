-- The cells of nodes, each by itself, and how they are put among those of all nodes.
use Rattle.std.specs.Prelude.{◌≡◌, ℕ, suc, ◌-◌, ◌≤◌, Bool, List, length, slice_index, All, if◌then◌else◌}
use Rattle.std.proofs.Common.{ltb}
use Rattle.fabric_defs.specs.Numbered.{list_of, joined}
use Rattle.net_defs.specs.Networks.{Network}
use Rattle.cell_defs.specs.declared.source.Source.{Source}
use Rattle.cell_defs.specs.declared.source.Source.TheVariants.{Pad, Cell}
use Rattle.fabric_defs.specs.declared.limits.TheConstants.{MAX_PINS}
use Rattle.cell_defs.specs.Cells.{CellValue, IsSourceBelow}
use Rattle.lut_map.specs.declared.made.TheConstants.{MAX_CELLS}
use Rattle.map_defs.specs.Reference.{own_cells, first_cell}

-- the cells of the first n nodes, each by itself, and for each of these nodes how many cells it and those
-- before it have
pub record AreParts (net : Network) (needed : ℕ → Bool) (n : ℕ) (cells : List CellValue) (ends : List ℕ) : Type 0 where
  pub made : cells ≡ joined n (own_cells net needed)
  pub counted : ends ≡ list_of n (λ v. first_cell net needed (suc v))

-- the source of a signal, where the nodes end at these numbers
abbrev pub source_by : ℕ → List ℕ → ℕ → Source
source_by inputs ends s = if ltb s inputs then Pad s else Cell (slice_index ends (s - inputs) - 1)

-- a cell of a node by itself with so many fan-ins can be put among all cells
pub record IsPlaceable (fan_ins : ℕ) (cell : CellValue) : Type 0 where
  pub few : length cell.pins ≤ MAX_PINS
  pub below : All (IsSourceBelow fan_ins MAX_CELLS) cell.pins
