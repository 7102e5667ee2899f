use Rattle.std.proofs.Common.{◌≡◌, ◌≤◌}
use Rattle.chain_check.specs.Known.{signs_before}
use Rattle.chain_check.proofs.room.signs.Given as goal

-- the signs of the first k clauses were counted
abbrev pub invariant-loop-k : goal.invariant-loop-k
invariant-loop-k l = record {
  counted : l.signs ≡ signs_before l.t l.k;
  few : l.signs ≤ l.k;
}
