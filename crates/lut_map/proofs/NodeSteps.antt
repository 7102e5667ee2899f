-- Which cells a node has, by the number of its fan-ins.
use Rattle.std.proofs.Common.{◌≡◌, ℕ, ◌-◌, ◌<◌, ◌≤◌, Bool, not, leb, List, [], ◌∷◌, ◌++◌, length, ap, sym, ◌∙◌, arith}
use Rattle.std.proofs.lemmas.Bool.{cond-true, cond-false, le-leb, lt-leb}
use Rattle.std.proofs.lemmas.List.{append_assoc, length-append}
use Rattle.blif_defs.specs.declared.mark.Mark.{Mark}
use Rattle.net_defs.specs.Networks.{Node}
use Rattle.cell_defs.specs.Cells.{CellValue}
use Rattle.map_defs.specs.declared.gate.Gate.TheVariants.{Disjunction}
use Rattle.map_defs.specs.declared.limits.TheConstants.{GROUP}
use Rattle.map_defs.specs.declared.term.Term.{Term}
use Rattle.map_defs.specs.Gates.{gate_cells}
use Rattle.map_defs.specs.NodeCells.{rows_cells, rows_terms, direct_cell, joined_cells, node_cells}
use Rattle.lut_map.specs.Steps.{direct, joined_of}

-- a node with many fan-ins
pub node_many : (node : Node) → GROUP < length node.fan_ins → joined_of node.on node.rows ≡ node_cells node
node_many node lt = sym (cond-false (leb (length node.fan_ins) GROUP) (direct_cell node ∷ []) (joined_cells node) (lt-leb (length node.fan_ins) GROUP lt))

-- a node with few
pub node_few : (node : Node) → length node.fan_ins ≤ GROUP → direct (length node.fan_ins) node.on node.rows ∷ [] ≡ node_cells node
node_few node le = sym (cond-true (leb (length node.fan_ins) GROUP) (direct_cell node ∷ []) (joined_cells node) (le-leb (length node.fan_ins) GROUP le))

-- the cells of rows and those that join them
pub joined_made : (start rows_made new : List CellValue) (on : Bool) (rows : List (List Mark)) (ends : List Term) (first : ℕ)
    → first ≡ length start
    → rows_made ≡ start ++ rows_cells (length start - first) rows → ends ≡ rows_terms (length start - first) rows
    → new ≡ rows_made ++ gate_cells Disjunction (not on) (length rows_made - first) ends
    → new ≡ start ++ joined_of on rows
joined_made start rows_made new on rows ends first at made listed written =
    let zero_is : length start - first ≡ 0 = omega arith in
    let made2 : rows_made ≡ start ++ rows_cells 0 rows = made ∙ ap (λ m. start ++ rows_cells m rows) zero_is in
    let listed2 : ends ≡ rows_terms 0 rows = listed ∙ ap (λ m. rows_terms m rows) zero_is in
    let size : length rows_made - first ≡ length (rows_cells 0 rows) = omega (arith, ap length made2, length-append start (rows_cells 0 rows)) in
    written
    ∙ ap (λ m. rows_made ++ gate_cells Disjunction (not on) m ends) size
    ∙ ap (λ l. rows_made ++ gate_cells Disjunction (not on) (length (rows_cells 0 rows)) l) listed2
    ∙ ap (λ l. l ++ gate_cells Disjunction (not on) (length (rows_cells 0 rows)) (rows_terms 0 rows)) made2
    ∙ append_assoc start (rows_cells 0 rows) (gate_cells Disjunction (not on) (length (rows_cells 0 rows)) (rows_terms 0 rows))
