use Rattle.fabric_defs.specs.Numbered.{list_of}
use Rattle.miter_defs.specs.Miters.{table_clause}
use Rattle.miter_cnf.specs.Writing.{Adds}
use Rattle.miter_cnf.proofs.circuits.Circuits.write_table.Given as goal

-- the clauses of the table's bits so far are written
abbrev pub invariant-loop-n : goal.invariant-loop-n
invariant-loop-n l = Adds l.initial.w.clauses (list_of l.n (table_clause l.self.net l.self.cells l.k)) l.w.clauses
