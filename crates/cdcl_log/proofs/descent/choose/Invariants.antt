use Rattle.cdcl_log.specs.Steps.{IsBest}
use Rattle.cdcl_log.proofs.descent.choose.Given as goal

-- the best so far is free, or each variable so far has a value
abbrev pub invariant-loop-v : goal.invariant-loop-v
invariant-loop-v l = IsBest l.variables l.trail.lits l.v l.best
