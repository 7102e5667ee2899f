use Rattle.std.proofs.Common.{◌≡◌, ◌++◌, map, take}
use Rattle.clause_defs.specs.Literals.{negation}
use Rattle.miter_defs.specs.Miters.{row_literals}
use Rattle.miter_cnf.proofs.circuits.Circuits.add_marks.Given as goal

-- the clause has the negations of all that the marks so far ask
abbrev pub invariant-loop-i : goal.invariant-loop-i
invariant-loop-i l = record {
  clauses : l.w.clauses ≡ l.initial.w.clauses;
  literals : l.w.literals.items ≡ l.initial.w.literals.items ++ map negation (row_literals (take l.i l.row) l.fan_ins);
}
