use Rattle.std.proofs.Common.{[], ◌∷◌, ap, subst, ◌∙◌}
use Rattle.clause_defs.specs.Clauses.{Lits}
use Rattle.cell_defs.specs.Cells.{cell_at}
use Rattle.miter_defs.specs.Miters.{table_clause}
use Rattle.miter_cnf.specs.Circuits.{Circuits}
use Rattle.miter_cnf.specs.Tables.{source_literals}
use Rattle.miter_cnf.specs.Writing.{Adds}
use Rattle.miter_cnf.proofs.WritingLemmas.{Adds-list_of}
use Rattle.miter_cnf.proofs.TableLemmas.{bit_clause-is}
use Rattle.miter_cnf.proofs.circuits.Circuits.write_table.Goals as goal

-- the clause that is written is that of the next bit
pub loop-n-preserved : goal.loop-n-preserved
loop-n-preserved c =
    let s = c.args.self.now in
    let k = c.args.k in
    let n = c.loop-n.n in
    let P : Lits → Type 0 = λ clause. Adds c.loop-n.w.clauses (clause ∷ []) c.write_bit.new.w.clauses in
    Adds-list_of c.args.w.now.clauses c.loop-n.w.clauses c.write_bit.new.w.clauses n (table_clause s.net s.cells k)
    c.loop-n.invariant
    (subst P
    (bit_clause-is s.net s.cells k n c.deref.result.now c.cell-literal.result c.cell-cell.result.table
    (c.deref.ensures.value ∙ c.in_ok-put_pins.ensures
    ∙ ap (source_literals s.net s.cells)
    (c.cell-cell.ensures.pins ∙ ap (λ (t : Circuits). (cell_at t.cells k).pins) c.self.view_is))
    c.cell-literal.ensures
    (c.cell-cell.ensures.table ∙ ap (λ (t : Circuits). (cell_at t.cells k).table) c.self.view_is))
    c.in_ok-write_bit.ensures)
