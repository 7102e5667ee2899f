use Rattle.std.proofs.Common.{◌≡◌, ℕ, ◌+◌, ◌↔◌, ◌⊎◌, [], length, take, vec_capacity}
use Rattle.clause_defs.specs.Literals.{Literal}
use Rattle.clause_defs.specs.Clauses.{Has}
use Rattle.chain_check.specs.ByPlace.{parts_of}
use Rattle.chain_check.specs.Known.{literals_at}
use Rattle.chain_check.proofs.room.gather.Given as goal

-- what was gathered and what is left are the running clause, and no antecedent so far has what is left
abbrev pub invariant-loop-p : goal.invariant-loop-p
invariant-loop-p l = record {
  variables : l.m.variables ≡ l.fn.m.variables;
  between_steps : l.m.fresh ≡ [];
  split : (x : Literal) → Has l.fn.m.running x ↔ (Has l.list.items x ⊎ Has l.m.running x);
  gone : (x : Literal) → Has l.m.running x → (p : ℕ) → Has (take l.p-index l.p-items) p → Has (literals_at l.t (parts_of l.lits l.spans) p) x → ⊥;
  all : length l.list.items + length l.m.running ≡ length l.fn.m.running;
  room : vec_capacity l.list ≡ vec_capacity l.fn.list;
}
