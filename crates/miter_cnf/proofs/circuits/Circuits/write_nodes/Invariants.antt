use Rattle.fabric_defs.specs.Numbered.{joined}
use Rattle.miter_defs.specs.Miters.{node_clauses}
use Rattle.miter_cnf.specs.Writing.{Adds}
use Rattle.miter_cnf.proofs.circuits.Circuits.write_nodes.Given as goal

-- the clauses of the nodes so far are written
abbrev pub invariant-loop-v : goal.invariant-loop-v
invariant-loop-v l = Adds l.initial.w.clauses (joined l.v (node_clauses l.self.net)) l.w.clauses
