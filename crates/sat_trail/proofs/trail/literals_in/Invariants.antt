use Rattle.std.proofs.Common.{◌≡◌, length, take, sum_by}
use Rattle.sat_trail.proofs.trail.literals_in.Given as goal

abbrev pub invariant-loop-k : goal.invariant-loop-k
invariant-loop-k l = l.total ≡ sum_by length (take l.k l.set.clauses)
