use Rattle.sat_trail.proofs.loose.late_literal.Given as goal

abbrev pub invariant-loop-m : goal.invariant-loop-m
invariant-loop-m l = Unit {0}
