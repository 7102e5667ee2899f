use Rattle.std.proofs.Common.{◌≡◌, ◌↔◌, [], take}
use Rattle.clause_defs.specs.Literals.{Literal}
use Rattle.clause_defs.specs.Clauses.{Has}
use Rattle.chain_check.proofs.marks.Marks.comes_to.Given as goal

-- the literals of the clause so far stood in the running clause, and were taken out
abbrev pub invariant-loop-l : goal.invariant-loop-l
invariant-loop-l l = record {
  variables : l.self.variables ≡ l.initial.self.variables;
  fresh : l.self.fresh ≡ [];
  rest : (x : Literal) → Has l.self.running x ↔ (Has l.initial.self.running x × (Has (take l.l-index l.c) x → ⊥));
  taken : (x : Literal) → Has (take l.l-index l.c) x → Has l.initial.self.running x;
}
