use Rattle.std.proofs.Common.{◌≡◌, ◌+◌, ◌↔◌, ◌⊎◌, [], length, take, vec_capacity}
use Rattle.clause_defs.specs.Literals.{Literal}
use Rattle.clause_defs.specs.Clauses.{Has}
use Rattle.chain_check.proofs.marks.Marks.move_to.Given as goal

-- of the clause's literals so far, those of the running clause were moved
abbrev pub invariant-loop-l : goal.invariant-loop-l
invariant-loop-l l = record {
  variables : l.self.variables ≡ l.initial.self.variables;
  fresh : l.self.fresh ≡ [];
  left : l.self.left ≡ l.initial.self.left;
  running : (x : Literal) → Has l.self.running x ↔ (Has l.initial.self.running x × (Has (take l.l-index l.c) x → ⊥));
  moved : (x : Literal) → Has l.list.items x ↔ (Has l.initial.list.items x ⊎ (Has l.initial.self.running x × Has (take l.l-index l.c) x));
  all : length l.list.items + length l.self.running ≡ length l.initial.list.items + length l.initial.self.running;
  room : vec_capacity l.list ≡ vec_capacity l.initial.list;
}
