use Rattle.std.proofs.Common.{◌≡◌, drop}
use Rattle.route_defs.specs.Demands.{first_over}
use Rattle.needs.proofs.first.first_over.Given as goal

abbrev pub invariant-loop-demand : goal.invariant-loop-demand
invariant-loop-demand l = first_over (drop l.demand-index l.demands) ≡ first_over l.demands
