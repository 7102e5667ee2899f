use Rattle.std.proofs.Common.{◌≡◌, ◌-◌}
use Rattle.link_lists.specs.Linked.{list_at}
use Rattle.sat_trail.specs.Looks.{Keeps, IsPassing}
use Rattle.sat_trail.proofs.propagation.pass_on.Given as goal

abbrev pub invariant-loop-done : goal.invariant-loop-done
invariant-loop-done l = record {
  passing : IsPassing l.region.held l.values.assignment.variables l.watches.watch.items l.watches.links l.values.assignment.lits
      l.values.levels.items l.values.reasons.items l.done;
  variables : l.values.assignment.variables ≡ l.fn.values.assignment.variables;
  keeps : Keeps l.region.held l.fn.values.assignment.variables l.level (list_at l.fn.watches.links.lists 1) (list_at l.watches.links.lists 1)
      l.fn.watches.watch.items l.fn.values.assignment.lits l.fn.values.levels.items l.fn.values.reasons.items
      l.watches.watch.items l.values.assignment.lits l.values.levels.items l.values.reasons.items;
}

abbrev pub decreases-loop-done : goal.decreases-loop-done
decreases-loop-done l = l.values.assignment.variables - l.done
