use Rattle.std.proofs.Common.{◌≡◌, ◌≤◌, length, take}
use Rattle.assignment.proofs.assignment.Assignment.back_to.Given as goal

abbrev pub invariant-loop-self : goal.invariant-loop-self
invariant-loop-self l = record {
  longer : l.n ≤ length l.self.lits;
  front : l.self.lits ≡ take (length l.self.lits) l.fn.self.lits;
  variables : l.self.variables ≡ l.fn.self.variables;
}

abbrev pub decreases-loop-self : goal.decreases-loop-self
decreases-loop-self l = length l.self.lits
