use Rattle.std.proofs.Common.{◌≡◌, max, drop}
use Rattle.route_defs.specs.Demands.{columns_used}
use Rattle.place_route.proofs.demands.columns_used.Given as goal

abbrev pub invariant-loop-column : goal.invariant-loop-column
invariant-loop-column l = max l.used (columns_used (drop l.column-index l.columns)) ≡ columns_used l.columns
