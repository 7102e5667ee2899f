-- What the numbering of a network and cells rests on.
use Rattle.std.specs.Prelude.{◌≡◌, ℕ, ◌+◌, ◌≤◌, Bool, List, length, map, take, sum}
use Rattle.std.specs.List.{count_by}
use Rattle.clause_defs.specs.declared.verdict.TheConstants.{MAX_VARIABLE}
use Rattle.net_defs.specs.Networks.{Node, Network}
use Rattle.fabric_defs.specs.Numbered.{list_of}
use Rattle.cell_defs.specs.Cells.{CellsValue}

-- how many inputs there are, how many rows each node has, which cells are in the cone, and how many outputs
-- there are
pub record NumberingValue : Type 0 where
  pub inputs : ℕ
  pub rows : List ℕ
  pub cone : List Bool
  pub outputs : ℕ

-- the numbering of this network and these cells
abbrev pub numbering_of : Network → CellsValue → NumberingValue
numbering_of net cells = record {
  inputs = length net.inputs;
  rows = map (λ (node : Node). length node.rows) net.nodes;
  cone = cells.cone;
  outputs = length net.outputs;
}

-- sums of the first numbers of a list, from a number on
abbrev pub sum_before : ℕ → List ℕ → ℕ → ℕ
sum_before first counts i = first + sum (take i counts)

-- how many of the first flags are true, from a number on
abbrev pub flags_before : ℕ → List Bool → ℕ → ℕ
flags_before first flags i = first + count_by (λ b. b) (take i flags)

-- the variable of the first row
abbrev pub first_row : NumberingValue → ℕ
first_row m = 2 + (m.inputs + length m.rows)

-- the variable of the first cell of the cone
abbrev pub first_cell : NumberingValue → ℕ
first_cell m = first_row m + sum m.rows

-- the variable of the first difference
abbrev pub first_difference : NumberingValue → ℕ
first_difference m = first_cell m + count_by (λ b. b) m.cone

-- a variable that a literal may have
abbrev pub IsVariable : ℕ → Type 0
IsVariable v = (1 ≤ v) × (v ≤ MAX_VARIABLE)

-- the arrays have the variable of the first row of each node, and that of each cell or else of the next one
pub record IsNumbering (m : NumberingValue) (row_starts cell_starts : List ℕ) (difference_start : ℕ) : Type 0 where
  pub rows : row_starts ≡ list_of (length m.rows) (sum_before (first_row m) m.rows)
  pub cells : cell_starts ≡ list_of (length m.cone) (flags_before (first_cell m) m.cone)
  pub difference : difference_start ≡ first_difference m
  pub some_outputs : 1 ≤ m.outputs
  pub within : first_difference m + m.outputs ≤ MAX_VARIABLE + 1
