-- The variables of the miter, from 1 in this order: zero; the inputs and the nodes of the network; its rows, by
-- node and then by row; the cells of the cone, by number; the differences of the outputs.
use Rattle.std.specs.Prelude.{ℕ, ◌+◌, Bool, length, take, sum_by, nat_lt, if◌then◌else◌}
use Rattle.std.specs.List.{count_by}
use Rattle.net_defs.specs.Networks.{Node, Network, signals}
use Rattle.net_defs.specs.Nets.{row_count}
use Rattle.cell_defs.specs.declared.source.Source.{Source}
use Rattle.cell_defs.specs.declared.source.Source.TheVariants.{Zero, Pad, Cell}
use Rattle.cell_defs.specs.Cells.{CellsValue}

-- the variable that is false
abbrev pub zero_variable : ℕ
zero_variable = 1

-- signals are the inputs and then the nodes
abbrev pub signal_variable : ℕ → ℕ
signal_variable s = 2 + s

-- node v
abbrev pub node_variable : Network → ℕ → ℕ
node_variable net v = signal_variable (length net.inputs + v)

-- how many rows the nodes before node v have
abbrev pub rows_before : Network → ℕ → ℕ
rows_before net v = sum_by (λ (node : Node). length node.rows) (take v net.nodes)

-- row r of node v
abbrev pub row_variable : Network → ℕ → ℕ → ℕ
row_variable net v r = 2 + signals net + rows_before net v + r

-- how many cells of the cone have a lower number
abbrev pub cone_before : CellsValue → ℕ → ℕ
cone_before cells k = count_by (λ (inside : Bool). inside) (take k cells.cone)

-- how many cells the cone has
abbrev pub cone_size : CellsValue → ℕ
cone_size cells = count_by (λ (inside : Bool). inside) cells.cone

-- cell k of the cone
abbrev pub cell_variable : Network → CellsValue → ℕ → ℕ
cell_variable net cells k = 2 + signals net + row_count net + cone_before cells k

-- the difference of output o
abbrev pub difference_variable : Network → CellsValue → ℕ → ℕ
difference_variable net cells o = 2 + signals net + row_count net + cone_size cells + o

-- how many variables there are
abbrev pub variable_count : Network → CellsValue → ℕ
variable_count net cells = 1 + signals net + row_count net + cone_size cells + length net.outputs

-- a pad past the inputs of the network is 0
abbrev pub source_variable : Network → CellsValue → Source → ℕ
source_variable net cells Zero = zero_variable
source_variable net cells (Pad p) = if nat_lt p (length net.inputs) then signal_variable p else zero_variable
source_variable net cells (Cell k) = cell_variable net cells k
