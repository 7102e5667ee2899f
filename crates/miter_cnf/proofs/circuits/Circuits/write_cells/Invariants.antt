use Rattle.fabric_defs.specs.Numbered.{joined}
use Rattle.miter_defs.specs.Miters.{cell_clauses}
use Rattle.miter_cnf.specs.Writing.{Adds}
use Rattle.miter_cnf.proofs.circuits.Circuits.write_cells.Given as goal

-- the clauses of the cells so far are written
abbrev pub invariant-loop-k : goal.invariant-loop-k
invariant-loop-k l = Adds l.initial.w.clauses (joined l.k (cell_clauses l.self.net l.self.cells)) l.w.clauses
