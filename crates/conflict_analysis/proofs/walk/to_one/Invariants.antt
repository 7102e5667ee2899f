use Rattle.std.proofs.Common.{◌≡◌}
use Rattle.conflict_analysis.specs.Walks.{IsToOne}
use Rattle.conflict_analysis.proofs.walk.to_one.Given as goal

-- the walk has come down to this place
abbrev pub invariant-loop-i : goal.invariant-loop-i
invariant-loop-i l = record {
  walk : IsToOne l.log l.present l.trail l.levels l.i l.chain;
  room : l.chain.variables ≡ l.fn.chain.variables;
}

abbrev pub decreases-loop-i : goal.decreases-loop-i
decreases-loop-i l = l.i
