use Rattle.std.proofs.Common.{◌≡◌}
use Rattle.chain_check.specs.Rooms.{RightBetween}
use Rattle.chain_check.proofs.room.Room.first_fault.Given as goal

-- the clauses from the first place to before this one are right
abbrev pub invariant-loop-k : goal.invariant-loop-k
invariant-loop-k l = record {
  variables : l.m.variables ≡ l.fn.m.variables;
  right : RightBetween l.f.clauses l.t l.self.limit l.fn.from l.k;
}
