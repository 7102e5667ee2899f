use Rattle.std.proofs.Common.{◌≡◌, max, drop}
use Rattle.least_fabric.specs.LeastFabrics.{greatest}
use Rattle.least_fabric.proofs.least.greatest.Given as goal

abbrev pub invariant-loop-n : goal.invariant-loop-n
invariant-loop-n l = max l.most (greatest (drop l.n-index l.numbers)) ≡ greatest l.numbers
