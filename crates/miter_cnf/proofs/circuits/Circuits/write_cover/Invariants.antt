use Rattle.std.proofs.Common.{◌≡◌, ◌∷◌, map, not}
use Rattle.net_defs.specs.Networks.{node_at}
use Rattle.fabric_defs.specs.Numbered.{list_of}
use Rattle.miter_defs.specs.Numberings.{node_variable, row_variable}
use Rattle.miter_defs.specs.Miters.{literal, positive}
use Rattle.miter_cnf.proofs.circuits.Circuits.write_cover.Given as goal

-- the clause has the node's sign and the rows so far
abbrev pub invariant-loop-r : goal.invariant-loop-r
invariant-loop-r l = record {
  clauses : l.w.clauses ≡ l.initial.w.clauses;
  literals : l.w.literals.items
      ≡ literal (node_variable l.self.net l.v) (not (node_at l.self.net l.v).on)
      ∷ map positive (list_of l.r (row_variable l.self.net l.v));
}
