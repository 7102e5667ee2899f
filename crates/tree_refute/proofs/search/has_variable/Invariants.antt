use Rattle.std.proofs.Common.{take}
use Rattle.tree_refute.specs.Branches.{HasVariable}
use Rattle.tree_refute.proofs.search.has_variable.Given as goal

-- no literal so far is of the variable
abbrev pub invariant-loop-l : goal.invariant-loop-l
invariant-loop-l l = HasVariable (take l.l-index l.l-items) l.variable → ⊥
