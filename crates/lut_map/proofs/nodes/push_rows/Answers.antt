use Rattle.std.proofs.Common.{◌-◌, ◌+◌, ◌∙◌, ◌++◌, false, List, ap, sym, subst, arith, length}
use Rattle.map_defs.specs.declared.gate.Gate.TheVariants.{Conjunction}
use Rattle.map_defs.specs.declared.term.Term.{Term}
use Rattle.map_defs.specs.Gates.{gate_cells}
use Rattle.map_defs.specs.NodeCells.{row_terms}
use Rattle.lut_map.proofs.RowLemmas.{AreRows, rows_more}
use Rattle.lut_map.proofs.nodes.push_rows.Goals as goal

pub loop-row-preserved : goal.loop-row-preserved
loop-row-preserved c =
    let cells = c.loop-row.cells in
    let P : List Term → Type 0 = λ l. AreRows c.args.cells.now c.args.first c.args.rows.now c.push_gates.new.cells l (c.loop-row.row-index + 1) in
    subst P (sym c.in_ok-push.ensures.items)
    (rows_more c.args.cells.now c.args.first c.args.rows.now cells c.loop-row.room.ends.items c.loop-row.row-index c.row-item.result
    c.push_gates.new.cells c.len.result c.loop-row.invariant c.loop-row-test.true (sym c.row-item.is)
    (c.in_ok-push_gates.ensures.cells
    ∙ ap (λ t. cells ++ gate_cells Conjunction false (length cells - c.args.first) t) (c.in_ok-put_terms.ensures.terms ∙ ap (row_terms 0) c.marks.ensures))
    c.len.ensures.count (omega (arith, c.in_ok-push_gates.ensures.more, c.len.ensures.count)) c.len.ensures.few)
