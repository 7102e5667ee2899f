use Rattle.std.proofs.Common.{◌≡◌, ◌↔◌, ◌⊎◌, take}
use Rattle.clause_defs.specs.Literals.{Literal}
use Rattle.clause_defs.specs.Clauses.{Has}
use Rattle.conflict_chain.specs.Conflicts.{IsSplit}
use Rattle.conflict_chain.proofs.chain.ConflictChain.gather.Given as goal

-- the clause's literals so far were added
abbrev pub invariant-loop-l : goal.invariant-loop-l
invariant-loop-l l = record {
  variables : l.self.variables ≡ l.fn.self.variables;
  antecedents : l.self.antecedents ≡ l.fn.self.antecedents;
  split : IsSplit l.levels l.level l.self;
  lits : (x : Literal) → Has l.self.lits x ↔ (Has l.fn.self.lits x ⊎ Has (take l.l-index l.clause) x);
}
