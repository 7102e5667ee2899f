-- The reference mapping of a network: the cells of its needed nodes in the order of the file, numbered as they
-- come.
use Rattle.std.specs.Prelude.{◌≡◌, ℕ, zero, suc, ◌+◌, ◌-◌, Bool, List, [], ◌++◌, length, map, slice_index, if◌then◌else◌}
use Rattle.std.proofs.Common.{ltb}
use Rattle.net_defs.specs.Networks.{Network, node_at}
use Rattle.net_defs.specs.Evaluation.{output_signals}
use Rattle.cell_defs.specs.declared.source.Source.{Source}
use Rattle.cell_defs.specs.declared.source.Source.TheVariants.{Zero, Pad, Cell}
use Rattle.cell_defs.specs.Cells.{CellValue}
use Rattle.map_defs.specs.Mapped.{MappedValue}
use Rattle.map_defs.specs.Needed.{IsNeeded}
use Rattle.map_defs.specs.NodeCells.{node_cells}

-- the cells of node v by itself; none where it isn't needed
abbrev pub own_cells : Network → (ℕ → Bool) → ℕ → List CellValue
own_cells net needed v = if needed v then node_cells (node_at net v) else []

-- the number of the first cell of node v: as many cells as the nodes before it have
abbrev pub first_cell : Network → (ℕ → Bool) → ℕ → ℕ
first_cell net needed zero = 0
first_cell net needed (suc v) = first_cell net needed v + length (own_cells net needed v)

-- the source of a signal: an input, or the last cell of a node
abbrev pub signal_source : Network → (ℕ → Bool) → ℕ → Source
signal_source net needed s =
    if ltb s (length net.inputs)
    then Pad s
    else Cell (first_cell net needed (suc (s - length net.inputs)) - 1)

-- a source of a node by itself, where the fan-ins are these signals and its first cell has this number
abbrev pub source_in : (ℕ → Source) → List ℕ → ℕ → Source → Source
source_in source_of fan_ins first Zero = Zero
source_in source_of fan_ins first (Pad j) = source_of (slice_index fan_ins j)
source_in source_of fan_ins first (Cell i) = Cell (first + i)

-- a cell of a node by itself, among those of all nodes
abbrev pub cell_in : (ℕ → Source) → List ℕ → ℕ → CellValue → CellValue
cell_in source_of fan_ins first cell = record {
  pins = map (source_in source_of fan_ins first) cell.pins;
  table = cell.table;
}

-- the cells of node v among those of all nodes
abbrev pub placed_cells : Network → (ℕ → Bool) → ℕ → List CellValue
placed_cells net needed v =
    map (cell_in (signal_source net needed) (node_at net v).fan_ins (first_cell net needed v))
    (own_cells net needed v)

-- the cells of the first nodes, one after another
abbrev pub cells_before : Network → (ℕ → Bool) → ℕ → List CellValue
cells_before net needed zero = []
cells_before net needed (suc v) = cells_before net needed v ++ placed_cells net needed v

-- the mapping of a network where these nodes are needed
abbrev pub mapping : Network → (ℕ → Bool) → MappedValue
mapping net needed = record {
  inputs = length net.inputs;
  cells = cells_before net needed (length net.nodes);
  outputs = map (signal_source net needed) (output_signals net);
}

-- this is the reference mapping of the network
abbrev pub RefMap : Network → MappedValue → Type 0
RefMap net l = (needed : ℕ → Bool) × IsNeeded net needed × (l ≡ mapping net needed)
