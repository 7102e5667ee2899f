use Rattle.miter_cnf.proofs.WritingLemmas.{Adds-joined}
use Rattle.miter_defs.specs.Miters.{cell_clauses}
use Rattle.miter_cnf.proofs.circuits.Circuits.write_cells.Goals as goal

-- one cell more adds its clauses
pub loop-k-preserved : goal.loop-k-preserved
loop-k-preserved c =
    let s = c.args.self.now in
    Adds-joined c.args.w.now.clauses c.loop-k.w.clauses c.write_cell.new.w.clauses c.loop-k.k (cell_clauses s.net s.cells)
    c.loop-k.invariant c.in_ok-write_cell.ensures
