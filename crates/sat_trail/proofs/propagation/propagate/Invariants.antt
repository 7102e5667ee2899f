use Rattle.std.proofs.Common.{◌≡◌, ◌-◌, length}
use Rattle.link_lists.specs.Linked.{list_at}
use Rattle.sat_trail.specs.Looks.{Keeps, IsPassing}
use Rattle.sat_trail.proofs.propagation.propagate.Given as goal

abbrev pub invariant-loop-number : goal.invariant-loop-number
invariant-loop-number l = record {
  variables : l.values.assignment.variables ≡ l.fn.values.assignment.variables;
  passing : IsPassing l.region.held l.values.assignment.variables l.watches.watch.items l.watches.links l.values.assignment.lits
      l.values.levels.items l.values.reasons.items l.done;
  keeps : Keeps l.region.held l.fn.values.assignment.variables l.level (list_at l.fn.watches.links.lists 1) (list_at l.watches.links.lists 1)
      l.fn.watches.watch.items l.fn.values.assignment.lits l.fn.values.levels.items l.fn.values.reasons.items
      l.watches.watch.items l.values.assignment.lits l.values.levels.items l.values.reasons.items;
}

abbrev pub decreases-loop-number : goal.decreases-loop-number
decreases-loop-number l = l.values.assignment.variables - length l.values.assignment.lits
