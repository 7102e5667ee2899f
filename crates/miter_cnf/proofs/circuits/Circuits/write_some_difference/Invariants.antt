use Rattle.std.proofs.Common.{◌≡◌}
use Rattle.fabric_defs.specs.Numbered.{list_of}
use Rattle.miter_defs.specs.Numberings.{difference_variable}
use Rattle.miter_defs.specs.Miters.{positive}
use Rattle.miter_cnf.proofs.circuits.Circuits.write_some_difference.Given as goal

-- the clause has the differences so far
abbrev pub invariant-loop-o : goal.invariant-loop-o
invariant-loop-o l = record {
  clauses : l.w.clauses ≡ l.initial.w.clauses;
  literals : l.w.literals.items ≡ list_of l.o (λ o. positive (difference_variable l.self.net l.self.cells o));
}
