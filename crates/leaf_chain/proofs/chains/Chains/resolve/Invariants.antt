use Rattle.std.proofs.Common.{◌≤◌, length}
use Rattle.leaf_chain.specs.Marks.{IsRunning}
use Rattle.leaf_chain.proofs.chains.Chains.resolve.Given as goal

abbrev pub invariant-loop-i : goal.invariant-loop-i
invariant-loop-i l = record {
  running : IsRunning l.e l.log l.self.marks l.self.antecedents l.i;
  low : l.e.chosen ≤ l.i;
  high : l.i ≤ length l.e.order;
}

abbrev pub decreases-loop-i : goal.decreases-loop-i
decreases-loop-i l = l.i
