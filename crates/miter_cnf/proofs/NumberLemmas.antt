-- The numbers of a numbering: where they are found, that they are those of the network and the cells, and that
-- they are few enough.
use Rattle.std.proofs.Common.{◌≡◌, ℕ, ◌+◌, ◌<◌, ◌≤◌, Bool, List, [], ◌∷◌, length, map, take, get_or, sum, sum_by, ap, ◌∙◌, arith}
use Rattle.std.specs.List.{count_by}
use Rattle.std.proofs.lemmas.List.{take-map, length-map, get_or_read}
use Rattle.std.proofs.lemmas.List.Sums.{sum_by_more_le, sum_by-take-le, sum_by-cons, sum-map}
use Rattle.clause_defs.specs.declared.verdict.TheConstants.{MAX_VARIABLE}
use Rattle.blif_defs.specs.declared.mark.Mark.{Mark}
use Rattle.blif_defs.specs.declared.mark.TheConstants.{MAX_BYTES}
use Rattle.net_defs.specs.Networks.{Node, Network, no_node, node_at}
use Rattle.net_defs.specs.Nets.{row_count, rows_size, IsNet}
use Rattle.fabric_defs.specs.Numbered.{list_of}
use Rattle.fabric_laws.proofs.NumberedLemmas.{length-list_of, get_or-list_of}
use Rattle.cell_defs.specs.Cells.{CellsValue}
use Rattle.miter_defs.specs.Numberings.{rows_before, row_variable, cell_variable, difference_variable, variable_count}
use Rattle.miter_laws.proofs.Ranges.{variable_count-le}
use Rattle.miter_cnf.specs.Numbered.{NumberingValue, numbering_of, sum_before, flags_before, first_row, first_cell, first_difference, IsVariable, IsNumbering}
use Rattle.miter_cnf.specs.Circuits.{AreCircuits}

-- ---- sums and counts of the first elements

-- one more number is within the whole sum
pub sum_before-le : (first : ℕ) (counts : List ℕ) (i : ℕ) → i < length counts
    → sum_before first counts i + get_or counts i 0 ≤ first + sum counts
sum_before-le first counts i lt = omega (arith, sum_by_more_le (λ (x : ℕ). x) counts i 0 lt)

-- the first flags have no more true ones than all
pub flags_before-le : (first : ℕ) (flags : List Bool) (i : ℕ) → flags_before first flags i ≤ first + count_by (λ b. b) flags
flags_before-le first flags i = let h : count_by (λ (b : Bool). b) (take i flags) ≤ count_by (λ (b : Bool). b) flags = sum_by-take-le _ flags i in omega arith

-- ---- the arrays of a numbering

-- there is a number for each node
pub length-rows : (m : NumberingValue) (rows cells : List ℕ) (d : ℕ) → IsNumbering m rows cells d → length rows ≡ length m.rows
length-rows m rows cells d h = ap length h.rows ∙ length-list_of (length m.rows) (sum_before (first_row m) m.rows)

-- and one for each cell
pub length-cells : (m : NumberingValue) (rows cells : List ℕ) (d : ℕ) → IsNumbering m rows cells d → length cells ≡ length m.cone
length-cells m rows cells d h = ap length h.cells ∙ length-list_of (length m.cone) (flags_before (first_cell m) m.cone)

-- what is read at a node is the variable of its first row
pub row_start : (m : NumberingValue) (rows cells : List ℕ) (d v start : ℕ) → IsNumbering m rows cells d → v < length m.rows
    → start ≡ get_or rows v start → start ≡ sum_before (first_row m) m.rows v
row_start m rows cells d v start h lt e =
    get_or_read rows v start (omega (arith, length-rows m rows cells d h)) e 0
    ∙ ap (λ xs. get_or xs v 0) h.rows ∙ get_or-list_of (length m.rows) (sum_before (first_row m) m.rows) v 0 lt

-- what is read at a cell is its variable, or that of the next one of the cone
pub cell_start : (m : NumberingValue) (rows cells : List ℕ) (d k start : ℕ) → IsNumbering m rows cells d → k < length m.cone
    → start ≡ get_or cells k start → start ≡ flags_before (first_cell m) m.cone k
cell_start m rows cells d k start h lt e =
    get_or_read cells k start (omega (arith, length-cells m rows cells d h)) e 0
    ∙ ap (λ xs. get_or xs k 0) h.cells ∙ get_or-list_of (length m.cone) (flags_before (first_cell m) m.cone) k 0 lt

-- a row has a variable
pub row-is_variable : (m : NumberingValue) (rows cells : List ℕ) (d v r start : ℕ) → IsNumbering m rows cells d
    → v < length m.rows → r < get_or m.rows v 0 → start ≡ get_or rows v start → IsVariable (start + r)
row-is_variable m rows cells d v r start h lt below e =
    let at = row_start m rows cells d v start h lt e in
    let most = sum_before-le (first_row m) m.rows v lt in
    (omega (arith, at), omega (arith, at, most, h.within))

-- a cell has a variable
pub cell-is_variable : (m : NumberingValue) (rows cells : List ℕ) (d k start : ℕ) → IsNumbering m rows cells d
    → k < length m.cone → start ≡ get_or cells k start → IsVariable start
cell-is_variable m rows cells d k start h lt e =
    let at = cell_start m rows cells d k start h lt e in
    let most = flags_before-le (first_cell m) m.cone k in
    (omega (arith, at), omega (arith, at, most, h.within, h.some_outputs))

-- ---- the numbering of a network and cells

-- the rows before a node
rows_before-is : (net : Network) (l : CellsValue) (v : ℕ) → sum (take v (numbering_of net l).rows) ≡ rows_before net v
rows_before-is net l v =
    ap sum (take-map (λ (node : Node). length node.rows) v net.nodes) ∙ sum-map (λ (node : Node). length node.rows) (take v net.nodes)

-- all rows
pub row_count-is : (net : Network) (l : CellsValue) → sum (numbering_of net l).rows ≡ row_count net
row_count-is net l = sum-map (λ (node : Node). length node.rows) net.nodes

-- the signals
pub nodes-is : (net : Network) (l : CellsValue) → length (numbering_of net l).rows ≡ length net.nodes
nodes-is net l = length-map net.nodes (λ (node : Node). length node.rows)

-- the variable of a row
pub row_variable-is : (m : NumberingValue) (net : Network) (l : CellsValue) (v r : ℕ) → m ≡ numbering_of net l
    → sum_before (first_row m) m.rows v + r ≡ row_variable net v r
row_variable-is m net l v r e =
    ap (λ (n : NumberingValue). sum_before (first_row n) n.rows v + r) e ∙ omega (arith, nodes-is net l, rows_before-is net l v)

-- the variable of a cell
pub cell_variable-is : (m : NumberingValue) (net : Network) (l : CellsValue) (k : ℕ) → m ≡ numbering_of net l
    → flags_before (first_cell m) m.cone k ≡ cell_variable net l k
cell_variable-is m net l k e =
    ap (λ (n : NumberingValue). flags_before (first_cell n) n.cone k) e
    ∙ omega (arith, nodes-is net l, row_count-is net l)

-- the variable of a difference
pub difference_variable-is : (m : NumberingValue) (net : Network) (l : CellsValue) (o : ℕ) → m ≡ numbering_of net l
    → first_difference m + o ≡ difference_variable net l o
difference_variable-is m net l o e =
    ap (λ (n : NumberingValue). first_difference n + o) e ∙ omega (arith, nodes-is net l, row_count-is net l)

-- how many variables there are
pub variable_count-is : (net : Network) (l : CellsValue)
    → first_difference (numbering_of net l) + length net.outputs ≡ variable_count net l + 1
variable_count-is net l = omega (arith, nodes-is net l, row_count-is net l)

-- and there are no more than a literal may have
pub numbering-within : (net : Network) (l : CellsValue) → AreCircuits net l
    → first_difference (numbering_of net l) + length net.outputs ≤ MAX_VARIABLE + 1
numbering-within net l h =
    omega (arith, variable_count-is net l, variable_count-le net l h.is_net h.are_cells.cells.geometry h.are_cells.cone.count)

-- so the variables up to those of the cone are few enough
pub cone-within : (net : Network) (l : CellsValue) (flags : List Bool) → AreCircuits net l → flags ≡ l.cone
    → 2 + (length net.inputs + length net.nodes) + row_count net + count_by (λ b. b) flags + length net.outputs ≤ MAX_VARIABLE + 1
cone-within net l flags h e =
    omega (arith, numbering-within net l h, nodes-is net l, row_count-is net l, ap (λ (bs : List Bool). count_by (λ b. b) bs) e)

-- a numbering is that of a network and cells where each part is
pub numbering-by_parts : (net : Network) (l : CellsValue) (m : NumberingValue) → m.inputs ≡ length net.inputs
    → m.rows ≡ map (λ (node : Node). length node.rows) net.nodes → m.cone ≡ l.cone
    → m.outputs ≡ length net.outputs → m ≡ numbering_of net l
numbering-by_parts net l m p q r s = λ i. record { inputs = p i; rows = q i; cone = r i; outputs = s i }

-- the arrays that start at these numbers are those of the numbering
pub IsNumbering-from : (net : Network) (l : CellsValue) (m : NumberingValue) (rows cells : List ℕ) (row cell difference : ℕ)
    → AreCircuits net l → m ≡ numbering_of net l
    → rows ≡ list_of (length m.rows) (sum_before row m.rows) → row ≡ first_row m
    → cells ≡ list_of (length m.cone) (flags_before cell m.cone) → cell ≡ first_cell m
    → difference ≡ first_difference m → IsNumbering m rows cells difference
IsNumbering-from net l m rows cells row cell difference h e r at_row c at_cell d = record {
  rows = r ∙ ap (λ (first : ℕ). list_of (length m.rows) (sum_before first m.rows)) at_row;
  cells = c ∙ ap (λ (first : ℕ). list_of (length m.cone) (flags_before first m.cone)) at_cell;
  difference = d;
  some_outputs = omega (arith, ap (λ (v : NumberingValue). v.outputs) e, h.is_net.outputs_some);
  within = omega (arith, ap (λ (v : NumberingValue). first_difference v + v.outputs) e, numbering-within net l h);
}

-- a signal has a variable
pub signal-is_variable : (m : NumberingValue) (rows cells : List ℕ) (d s : ℕ) → IsNumbering m rows cells d
    → s < m.inputs + length m.rows → IsVariable (2 + s)
signal-is_variable m rows cells d s h lt = (omega arith, omega (arith, h.within))

-- ---- few rows

-- rows are no longer than their size
length-rows_size : (rows : List (List Mark)) → length rows ≤ rows_size rows
length-rows_size [] = omega arith
length-rows_size (row ∷ rows) = omega (arith, sum_by-cons (λ (r : List Mark). length r + 2) row rows, length-rows_size rows)

-- a node has no more rows than a text has bytes
pub rows-few : (net : Network) (v : ℕ) → IsNet net → v < length net.nodes → length (node_at net v).rows ≤ MAX_BYTES
rows-few net v n lt =
    let here : rows_size (node_at net v).rows ≤ sum_by (λ (node : Node). rows_size node.rows) net.nodes =
    omega (arith, sum_by_more_le (λ (node : Node). rows_size node.rows) net.nodes v no_node lt) in
    omega (arith, length-rows_size (node_at net v).rows, here, n.rows_within)
