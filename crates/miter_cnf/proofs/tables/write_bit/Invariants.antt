use Rattle.std.proofs.Common.{◌≡◌}
use Rattle.fabric_defs.specs.Numbered.{list_of}
use Rattle.miter_cnf.specs.Tables.{pin_literal}
use Rattle.miter_cnf.proofs.tables.write_bit.Given as goal

-- the clause has the literals of the pins so far
abbrev pub invariant-loop-j : goal.invariant-loop-j
invariant-loop-j l = record {
  clauses : l.w.clauses ≡ l.initial.w.clauses;
  literals : l.w.literals.items ≡ list_of l.j (pin_literal l.pins l.n);
}
