use Rattle.std.proofs.Common.{[], ◌∷◌, map}
use Rattle.net_defs.specs.Networks.{node_at}
use Rattle.fabric_defs.specs.Numbered.{list_of}
use Rattle.miter_defs.specs.Numberings.{node_variable, row_variable}
use Rattle.miter_defs.specs.Miters.{literal, negative}
use Rattle.miter_cnf.specs.Writing.{Adds}
use Rattle.miter_cnf.proofs.circuits.Circuits.write_hits.Given as goal

-- there is a clause for each row so far
abbrev pub invariant-loop-r : goal.invariant-loop-r
invariant-loop-r l =
    Adds l.initial.w.clauses
    (map (λ hit. literal (node_variable l.self.net l.fn.v) (node_at l.self.net l.fn.v).on ∷ negative hit ∷ [])
    (list_of l.r (row_variable l.self.net l.fn.v)))
    l.w.clauses
