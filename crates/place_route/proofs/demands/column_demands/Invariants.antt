use Rattle.std.proofs.Common.{◌≡◌}
use Rattle.fabric_defs.specs.Numbered.{joined}
use Rattle.place_route.specs.Refusals.{listed_pair}
use Rattle.place_route.proofs.demands.column_demands.Given as goal

abbrev pub invariant-loop-c : goal.invariant-loop-c
invariant-loop-c l = l.demands.items ≡ joined l.c (listed_pair l.g l.counts l.needs)
