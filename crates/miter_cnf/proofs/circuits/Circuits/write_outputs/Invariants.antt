use Rattle.fabric_defs.specs.Numbered.{joined}
use Rattle.miter_defs.specs.Miters.{output_clauses}
use Rattle.miter_cnf.specs.Writing.{Adds}
use Rattle.miter_cnf.proofs.circuits.Circuits.write_outputs.Given as goal

-- the clauses of the outputs so far are written
abbrev pub invariant-loop-o : goal.invariant-loop-o
invariant-loop-o l = Adds l.initial.w.clauses (joined l.o (output_clauses l.self.net l.self.cells)) l.w.clauses
