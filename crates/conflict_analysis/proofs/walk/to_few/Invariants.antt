use Rattle.std.proofs.Common.{◌≡◌}
use Rattle.conflict_analysis.specs.Walks.{IsToFew}
use Rattle.conflict_analysis.proofs.walk.to_few.Given as goal

-- the walk has come down to this place
abbrev pub invariant-loop-i : goal.invariant-loop-i
invariant-loop-i l = record {
  walk : IsToFew l.log l.present l.trail l.levels l.fn.chain.present l.i l.chain;
  room : l.chain.variables ≡ l.fn.chain.variables;
}

abbrev pub decreases-loop-i : goal.decreases-loop-i
decreases-loop-i l = l.i
