-- The clauses of the miter of a network and the cells of a configuration, in their order.
use Rattle.std.specs.Prelude.{ℕ, ◌==◌, Bool, true, false, not, List, [], ◌∷◌, ◌++◌, length, map, slice_index_or, if◌then◌else◌}
use Rattle.std.specs.Int.{bit_at}
use Rattle.clause_defs.specs.Literals.{Literal, negation}
use Rattle.clause_defs.specs.Clauses.{Lits, clause_of}
use Rattle.clause_defs.specs.Formulas.{Formula}
use Rattle.blif_defs.specs.declared.mark.Mark.{Mark}
use Rattle.blif_defs.specs.declared.mark.Mark.TheVariants.{Zero, One, Any}
use Rattle.net_defs.specs.Networks.{Output, Network, node_at}
use Rattle.fabric_defs.specs.Numbered.{list_of, joined}
use Rattle.fabric_defs.specs.Geometries.{table_bits}
use Rattle.cell_defs.specs.declared.source.Source.TheVariants.{Zero as NoSource}
use Rattle.cell_defs.specs.Cells.{CellsValue, cell_at}
use Rattle.cell_defs.specs.Cones.{in_cone}
use Rattle.miter_defs.specs.Numberings.{zero_variable, signal_variable, node_variable, row_variable, cell_variable, difference_variable, variable_count, source_variable}

-- the variable where the sign is true, else its negation
abbrev pub literal : ℕ → Bool → Literal
literal variable sign = record { variable = variable; positive = sign }

-- the literal that is true where its variable is
abbrev pub positive : ℕ → Literal
positive variable = literal variable true

-- the literal that is true where its variable is false
abbrev pub negative : ℕ → Literal
negative variable = literal variable false

-- what a mark asks of the signal under it
abbrev pub mark_literals : Mark → ℕ → Lits
mark_literals Zero s = negative (signal_variable s) ∷ []
mark_literals One s = positive (signal_variable s) ∷ []
mark_literals Any s = []

-- what a row asks of the fan-ins
abbrev pub row_literals : List Mark → List ℕ → Lits
row_literals [] ss = []
row_literals (m ∷ ms) [] = []
row_literals (m ∷ ms) (s ∷ ss) = mark_literals m s ++ row_literals ms ss

-- row r of node v hits exactly where all that it asks is so
abbrev pub hit_clauses : ℕ → Lits → List Lits
hit_clauses hit asked = map (λ l. negative hit ∷ l ∷ []) asked ++ (positive hit ∷ map negation asked) ∷ []

-- the node has the sign exactly where some row hits
abbrev pub cover_clauses : ℕ → Bool → List ℕ → List Lits
cover_clauses node on hits =
    (literal node (not on) ∷ map positive hits) ∷ map (λ hit. literal node on ∷ negative hit ∷ []) hits

-- row r of node v
abbrev pub row_at : Network → ℕ → ℕ → List Mark
row_at net v r = slice_index_or (node_at net v).rows r []

-- first the rows of the node, and then the node
abbrev pub node_clauses : Network → ℕ → List Lits
node_clauses net v =
    joined (length (node_at net v).rows)
    (λ r. hit_clauses (row_variable net v r) (row_literals (row_at net v r) (node_at net v).fan_ins))
    ++ cover_clauses (node_variable net v) (node_at net v).on
    (list_of (length (node_at net v).rows) (row_variable net v))

-- where pin j has bit j of n, for each j, the cell has bit n of its table
abbrev pub table_clause : Network → CellsValue → ℕ → ℕ → Lits
table_clause net cells k n =
    list_of (length (cell_at cells k).pins)
    (λ j. literal (source_variable net cells (slice_index_or (cell_at cells k).pins j NoSource)) (bit_at n j == 0))
    ++ literal (cell_variable net cells k) (bit_at (cell_at cells k).table n == 1) ∷ []

-- a cell of the cone has a clause for each bit of its table; the other cells have none
abbrev pub cell_clauses : Network → CellsValue → ℕ → List Lits
cell_clauses net cells k =
    if in_cone cells k then list_of (table_bits cells.geometry) (table_clause net cells k) else []

-- the difference is true exactly where the two are not the same
abbrev pub difference_clauses : ℕ → ℕ → ℕ → List Lits
difference_clauses d a b =
    (negative d ∷ positive a ∷ positive b ∷ [])
    ∷ (negative d ∷ negative a ∷ negative b ∷ [])
    ∷ (positive d ∷ negative a ∷ positive b ∷ [])
    ∷ (positive d ∷ positive a ∷ negative b ∷ [])
    ∷ []

-- what stands past the last output, where nothing looks
abbrev pub no_output : Output
no_output = record { name = []; signal = 0 }

-- output o of the network and output pad o
abbrev pub output_clauses : Network → CellsValue → ℕ → List Lits
output_clauses net cells o =
    difference_clauses (difference_variable net cells o)
    (signal_variable (slice_index_or net.outputs o no_output).signal)
    (source_variable net cells (slice_index_or cells.outputs o NoSource))

-- all clauses but the last: both circuits, and what the differences are
abbrev pub circuit_clauses : Network → CellsValue → List Lits
circuit_clauses net cells =
    (negative zero_variable ∷ [])
    ∷ joined (length net.nodes) (node_clauses net)
    ++ joined (length cells.cells) (cell_clauses net cells)
    ++ joined (length net.outputs) (output_clauses net cells)

-- some output differs
abbrev pub some_difference : Network → CellsValue → Lits
some_difference net cells = list_of (length net.outputs) (λ o. positive (difference_variable net cells o))

-- each clause is the set of its literals, in their order
abbrev pub Miter : Network → CellsValue → Formula
Miter net cells = record {
  variables = variable_count net cells;
  clauses = map clause_of (circuit_clauses net cells ++ some_difference net cells ∷ []);
}
