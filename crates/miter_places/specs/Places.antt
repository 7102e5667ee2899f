-- Where the clauses of each part of the two circuits begin in the miter. A clause's number is one more than the
-- number of the clauses before it.
use Rattle.std.specs.Prelude.{ℕ, ◌+◌, Bool, true, false, List, length}
use Rattle.blif_defs.specs.declared.mark.Mark.{Mark}
use Rattle.blif_defs.specs.declared.mark.Mark.TheVariants.{Zero, One, Any}
use Rattle.clause_defs.specs.Clauses.{Lits}
use Rattle.net_defs.specs.Networks.{Network, node_at}
use Rattle.fabric_defs.specs.Numbered.{list_of, joined}
use Rattle.cell_defs.specs.Cells.{CellsValue}
use Rattle.miter_defs.specs.Numberings.{row_variable}
use Rattle.miter_defs.specs.Miters.{row_at, row_literals, hit_clauses, node_clauses, cell_clauses, output_clauses}

-- the mark asks something of the signal under it
abbrev pub is_asked : Mark → Bool
is_asked Zero = true
is_asked One = true
is_asked Any = false

-- the clauses of row r of node v
abbrev pub row_clauses : Network → ℕ → ℕ → List Lits
row_clauses net v r = hit_clauses (row_variable net v r) (row_literals (row_at net v r) (node_at net v).fan_ins)

-- the clause that says of one variable that it is false stands before all others
abbrev pub number_of_zero : ℕ
number_of_zero = 1

-- the first clause of node v
abbrev pub first_of_node : Network → ℕ → ℕ
first_of_node net v = 2 + length (joined v (node_clauses net))

-- the first clause of row r of node v
abbrev pub first_of_row : Network → ℕ → ℕ → ℕ
first_of_row net v r = first_of_node net v + length (joined r (row_clauses net v))

-- the first clause of the node itself, behind those of its rows
abbrev pub first_of_cover : Network → ℕ → ℕ
first_of_cover net v = first_of_row net v (length (node_at net v).rows)

-- the first clause of cell k
abbrev pub first_of_cell : Network → CellsValue → ℕ → ℕ
first_of_cell net cells k = first_of_node net (length net.nodes) + length (joined k (cell_clauses net cells))

-- the first clause of output o
abbrev pub first_of_output : Network → CellsValue → ℕ → ℕ
first_of_output net cells o =
    first_of_cell net cells (length cells.cells) + length (joined o (output_clauses net cells))

-- the clause that some output differs stands behind all others
abbrev pub number_of_last : Network → CellsValue → ℕ
number_of_last net cells = first_of_output net cells (length net.outputs)

-- where the parts of a miter begin
pub record PlacesValue : Type 0 where
  pub nodes : List ℕ
  pub cells : ℕ
  pub outputs : ℕ

-- the places of the miter of a network and cells
abbrev pub places_of : Network → CellsValue → PlacesValue
places_of net cells = record {
  nodes = list_of (length net.nodes) (first_of_node net);
  cells = first_of_cell net cells 0;
  outputs = first_of_output net cells 0;
}
