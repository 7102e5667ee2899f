-- A net has one reference mapping: the least set of nodes is one, and the mapping looks at no other nodes.
use Rattle.std.proofs.Common.{◌≡◌, ℕ, zero, suc, ◌+◌, ◌-◌, ◌<◌, ◌≤◌, ⊎_elim, Bool, true, false, cond, List, [], ◌∷◌, ◌++◌, length, map, get_or, refl, ap, sym, ◌∙◌, arith}
use Rattle.std.proofs.lemmas.Bool.{cases_lt}
use Rattle.std.proofs.lemmas.List.{get_or_past}
use Rattle.net_defs.specs.Networks.{Network, no_node, node_at, signals}
use Rattle.net_defs.specs.Nets.{IsNet}
use Rattle.net_defs.specs.Evaluation.{output_signals}
use Rattle.cell_defs.specs.declared.source.Source.{Source}
use Rattle.cell_defs.specs.declared.source.Source.TheVariants.{Zero, Pad, Cell}
use Rattle.cell_defs.specs.Cells.{CellValue}
use Rattle.map_defs.specs.Mapped.{MappedValue}
use Rattle.map_defs.specs.Needed.{IsNeeded}
use Rattle.map_defs.specs.NodeCells.{node_cells}
use Rattle.map_defs.specs.Reference.{own_cells, first_cell, signal_source, source_in, cell_in, placed_cells, cells_before, mapping, RefMap}
use Rattle.map_laws.proofs.MappingLemmas.{signal_source-input, signal_source-node, outputs-within}

-- two tests that are true together are one
same_tests : (p q : Bool) → (p ≡ true → q ≡ true) → (q ≡ true → p ≡ true) → p ≡ q
same_tests true q f g = sym (f refl)
same_tests false true f g = g refl
same_tests false false f g = refl

-- two tests say the same of each node
abbrev Agree : Network → (ℕ → Bool) → (ℕ → Bool) → Type 0
Agree net p q = (v : ℕ) → v < length net.nodes → p v ≡ q v

-- two sets that are both the least one have the same nodes
needed-agree : (net : Network) (p q : ℕ → Bool) → IsNeeded net p → IsNeeded net q → Agree net p q
needed-agree net p q h k v lt = same_tests (p v) (q v) (h.least q k.closed v lt) (k.least p h.closed v lt)

-- a node has the same cells by both tests, if they say the same of it
own_cells-agree : (net : Network) (p q : ℕ → Bool) (v : ℕ) → p v ≡ q v → own_cells net p v ≡ own_cells net q v
own_cells-agree net p q v e = ap (λ b. cond b (node_cells (node_at net v)) []) e

-- the first cell of each node has the same number by both
first_cell-agree : (net : Network) (p q : ℕ → Bool) → Agree net p q → (v : ℕ) → v ≤ length net.nodes → first_cell net p v ≡ first_cell net q v
first_cell-agree net p q h zero le = refl
first_cell-agree net p q h (suc v) le =
    ap (λ n. n + length (own_cells net p v)) (first_cell-agree net p q h v (omega arith))
    ∙ ap (λ l. first_cell net q v + length l) (own_cells-agree net p q v (h v (omega arith)))

-- each signal has the same source by both
signal_source-agree : (net : Network) (p q : ℕ → Bool) → Agree net p q → (s : ℕ) → s < signals net → signal_source net p s ≡ signal_source net q s
signal_source-agree net p q h s lt =
    ⊎_elim
    (λ here. signal_source-input net p s here ∙ sym (signal_source-input net q s here))
    (λ past. signal_source-node net p s past
    ∙ ap (λ n. Cell (n - 1)) (first_cell-agree net p q h (suc (s - length net.inputs)) (omega arith))
    ∙ sym (signal_source-node net q s past))
    (cases_lt s (length net.inputs))

-- the sources of signals agree, so do those of pins
source_in-agree : (f g : ℕ → Source) (fan_ins : List ℕ) (first : ℕ) (s : Source) → ((j : ℕ) → f (get_or fan_ins j 0) ≡ g (get_or fan_ins j 0))
    → source_in f fan_ins first s ≡ source_in g fan_ins first s
source_in-agree f g fan_ins first Zero h = refl
source_in-agree f g fan_ins first (Pad j) h = h j
source_in-agree f g fan_ins first (Cell i) h = refl

-- and so do those of all pins of a cell
pins-agree : (f g : ℕ → Source) (fan_ins : List ℕ) (first : ℕ) (ss : List Source) → ((j : ℕ) → f (get_or fan_ins j 0) ≡ g (get_or fan_ins j 0))
    → map (source_in f fan_ins first) ss ≡ map (source_in g fan_ins first) ss
pins-agree f g fan_ins first [] h = refl
pins-agree f g fan_ins first (s ∷ ss) h =
    ap (λ t. t ∷ map (source_in f fan_ins first) ss) (source_in-agree f g fan_ins first s h)
    ∙ ap (λ l. source_in g fan_ins first s ∷ l) (pins-agree f g fan_ins first ss h)

-- cells of a node are put among all in one way, where the sources of its fan-ins are the same
pub cells-agree : (f g : ℕ → Source) (fan_ins : List ℕ) (first : ℕ) (cells : List CellValue) → ((j : ℕ) → f (get_or fan_ins j 0) ≡ g (get_or fan_ins j 0))
    → map (cell_in f fan_ins first) cells ≡ map (cell_in g fan_ins first) cells
cells-agree f g fan_ins first [] h = refl
cells-agree f g fan_ins first (cell ∷ cells) h =
    ap (λ l. let c : CellValue = record { pins = l; table = cell.table } in c ∷ map (cell_in f fan_ins first) cells) (pins-agree f g fan_ins first cell.pins h)
    ∙ ap (λ l. cell_in g fan_ins first cell ∷ l) (cells-agree f g fan_ins first cells h)

-- each fan-in of a node is a signal, and so is what stands past them
pub fan_in-within : (net : Network) (v j : ℕ) → IsNet net → v < length net.nodes → get_or (node_at net v).fan_ins j 0 < signals net
fan_in-within net v j h lt =
    ⊎_elim
    (λ here. (h.nodes v no_node lt).fan_ins j 0 here)
    (λ past. let e : get_or (node_at net v).fan_ins j 0 ≡ 0 = get_or_past (node_at net v).fan_ins j 0 past in omega arith)
    (cases_lt j (length (node_at net v).fan_ins))

-- the cells of a node are the same among those of all nodes
placed_cells-agree : (net : Network) (p q : ℕ → Bool) → IsNet net → Agree net p q → (v : ℕ) → v < length net.nodes
    → placed_cells net p v ≡ placed_cells net q v
placed_cells-agree net p q is_net h v lt =
    let fan_ins = (node_at net v).fan_ins in
    cells-agree (signal_source net p) (signal_source net q) fan_ins (first_cell net p v) (own_cells net p v)
    (λ j. signal_source-agree net p q h (get_or fan_ins j 0) (fan_in-within net v j is_net lt))
    ∙ ap (λ n. map (cell_in (signal_source net q) fan_ins n) (own_cells net p v)) (first_cell-agree net p q h v (omega arith))
    ∙ ap (map (cell_in (signal_source net q) fan_ins (first_cell net q v))) (own_cells-agree net p q v (h v lt))

-- and so are the cells of the first nodes together
cells_before-agree : (net : Network) (p q : ℕ → Bool) → IsNet net → Agree net p q → (v : ℕ) → v ≤ length net.nodes
    → cells_before net p v ≡ cells_before net q v
cells_before-agree net p q is_net h zero le = refl
cells_before-agree net p q is_net h (suc v) le =
    ap (λ l. l ++ placed_cells net p v) (cells_before-agree net p q is_net h v (omega arith))
    ∙ ap (λ l. cells_before net q v ++ l) (placed_cells-agree net p q is_net h v (omega arith))

-- several signals have the same sources by both
sources-agree : (net : Network) (p q : ℕ → Bool) → Agree net p q → (ts : List ℕ) → ((k : ℕ) → k < length ts → get_or ts k 0 < signals net)
    → map (signal_source net p) ts ≡ map (signal_source net q) ts
sources-agree net p q h [] within = refl
sources-agree net p q h (t ∷ ts) within =
    ap (λ s. s ∷ map (signal_source net p) ts) (signal_source-agree net p q h t (within 0 (omega arith)))
    ∙ ap (λ l. signal_source net q t ∷ l) (sources-agree net p q h ts (λ k lt. within (suc k) (omega arith)))

-- so the mapping is the same by both
mapping-agree : (net : Network) (p q : ℕ → Bool) → IsNet net → Agree net p q → mapping net p ≡ mapping net q
mapping-agree net p q is_net h =
    ap (λ cells. let l : MappedValue = record { inputs = length net.inputs; cells = cells; outputs = map (signal_source net p) (output_signals net) } in l)
    (cells_before-agree net p q is_net h (length net.nodes) (omega arith))
    ∙ ap (λ outputs. let l : MappedValue = record { inputs = length net.inputs; cells = cells_before net q (length net.nodes); outputs = outputs } in l)
    (sources-agree net p q h (output_signals net) (λ k lt. outputs-within net is_net k 0 lt))

-- a net has one reference mapping
pub reference-unique : (net : Network) (l m : MappedValue) → IsNet net → RefMap net l → RefMap net m → l ≡ m
reference-unique net l m is_net h k =
    h.2 ∙ mapping-agree net h.0 k.0 is_net (needed-agree net h.0 k.0 h.1 k.1) ∙ sym k.2
