-- The cells of one node by itself: there `Pad j` is the node's fan-in j, and `Cell i` the i-th of its own
-- cells. The last one is the node.
use Rattle.std.specs.Prelude.{ℕ, suc, ◌+◌, ◌-◌, true, false, not, if◌then◌else◌, List, [], ◌∷◌, ◌++◌, length}
use Rattle.std.proofs.Common.{leb}
use Rattle.blif_defs.specs.declared.mark.Mark.{Mark}
use Rattle.blif_defs.specs.declared.mark.Mark.TheVariants.{Zero as Off, One, Any}
use Rattle.net_defs.specs.Networks.{Node}
use Rattle.net_defs.specs.Evaluation.{node_bit}
use Rattle.fabric_defs.specs.Numbered.{list_of}
use Rattle.cell_defs.specs.declared.source.Source.TheVariants.{Pad, Cell}
use Rattle.cell_defs.specs.Cells.{CellValue}
use Rattle.map_defs.specs.declared.gate.Gate.TheVariants.{Conjunction, Disjunction}
use Rattle.map_defs.specs.declared.limits.TheConstants.{GROUP}
use Rattle.map_defs.specs.Tables.{table_of}
use Rattle.map_defs.specs.declared.term.Term.{Term}
use Rattle.map_defs.specs.Gates.{gate_cells}

-- the one cell of a node with few fan-ins: its table is the node's
abbrev pub direct_cell : Node → CellValue
direct_cell node = record {
  pins = list_of (length node.fan_ins) Pad;
  table = table_of (length node.fan_ins) (node_bit node);
}

-- what a row asks of the fan-ins from number `pin` on, one term for each mark that isn't `-`
abbrev pub row_terms : ℕ → List Mark → List Term
row_terms pin [] = []
row_terms pin (Off ∷ marks) = record { source = Pad pin; positive = false } ∷ row_terms (suc pin) marks
row_terms pin (One ∷ marks) = record { source = Pad pin; positive = true } ∷ row_terms (suc pin) marks
row_terms pin (Any ∷ marks) = row_terms (suc pin) marks

-- the cells of a row, the first of which has the number `next`: the last one is 1 where the row hits
abbrev pub row_cells : ℕ → List Mark → List CellValue
row_cells next row = gate_cells Conjunction false next (row_terms 0 row)

-- the cells of these rows in order
abbrev pub rows_cells : ℕ → List (List Mark) → List CellValue
rows_cells next [] = []
rows_cells next (row ∷ rows) = row_cells next row ++ rows_cells (next + length (row_cells next row)) rows

-- the last cell of each of these rows, as a term
abbrev pub rows_terms : ℕ → List (List Mark) → List Term
rows_terms next [] = []
rows_terms next (row ∷ rows) =
    record { source = Cell (next + length (row_cells next row) - 1); positive = true }
    ∷ rows_terms (next + length (row_cells next row)) rows

-- the cells of a node with many fan-ins: those of its rows, and then those that join the rows, the last of
-- them negated where the node is off where a row hits; without rows that is one cell without pins
abbrev pub joined_cells : Node → List CellValue
joined_cells node =
    rows_cells 0 node.rows
    ++ gate_cells Disjunction (not node.on) (length (rows_cells 0 node.rows)) (rows_terms 0 node.rows)

-- the cells of a node
abbrev pub node_cells : Node → List CellValue
node_cells node = if leb (length node.fan_ins) GROUP then direct_cell node ∷ [] else joined_cells node
