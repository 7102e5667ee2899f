use Rattle.net_defs.specs.Networks.{node_at}
use Rattle.fabric_defs.specs.Numbered.{joined}
use Rattle.miter_defs.specs.Numberings.{row_variable}
use Rattle.miter_defs.specs.Miters.{row_literals, hit_clauses, row_at}
use Rattle.miter_cnf.specs.Writing.{Adds}
use Rattle.miter_cnf.proofs.circuits.Circuits.write_rows.Given as goal

-- the clauses of the rows so far are written
abbrev pub invariant-loop-r : goal.invariant-loop-r
invariant-loop-r l =
    Adds l.initial.w.clauses
    (joined l.r (λ r. hit_clauses (row_variable l.self.net l.v r) (row_literals (row_at l.self.net l.v r) (node_at l.self.net l.v).fan_ins)))
    l.w.clauses
