use Rattle.std.proofs.Common.{◌≡◌, ◌≤◌, ◌↔◌, [], length, take}
use Rattle.clause_defs.specs.Literals.{Literal}
use Rattle.clause_defs.specs.Clauses.{Has}
use Rattle.chain_check.proofs.marks.Marks.load.Given as goal

-- the clause's literals so far were added
abbrev pub invariant-loop-l : goal.invariant-loop-l
invariant-loop-l l = record {
  variables : l.self.variables ≡ l.initial.self.variables;
  running : l.self.running ≡ [];
  left : l.self.left ≡ l.initial.self.left;
  fresh : (x : Literal) → Has l.self.fresh x ↔ Has (take l.l-index l.c) x;
  counted : l.added ≡ length l.self.fresh;
  small : l.added ≤ l.l-index;
}
