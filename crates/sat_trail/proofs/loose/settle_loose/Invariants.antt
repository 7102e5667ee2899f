use Rattle.std.proofs.Common.{◌≡◌, length, IfSome, IfNone}
use Rattle.link_lists.specs.Linked.{list_at}
use Rattle.sat_trail.specs.Visits.{IsInConflict}
use Rattle.sat_trail.specs.Looks.{HasMarks, Keeps}
use Rattle.sat_trail.specs.Loosening.{loose_in, IsSettling, AreSettledIn}
use Rattle.sat_trail.proofs.loose.settle_loose.Given as goal

abbrev pub invariant-loop-conflict : goal.invariant-loop-conflict
invariant-loop-conflict l = record {
  settling : IsSettling l.region.held l.values.assignment.variables l.watches.watch.items l.watches.links;
  marks : HasMarks l.values.assignment.variables l.values.levels.items l.values.reasons.items;
  variables : l.values.assignment.variables ≡ l.fn.values.assignment.variables;
  keeps : Keeps l.region.held l.fn.values.assignment.variables l.level (list_at l.fn.watches.links.lists 1) (loose_in l.watches.links.lists)
      l.fn.watches.watch.items l.fn.values.assignment.lits l.fn.values.levels.items l.fn.values.reasons.items
      l.watches.watch.items l.values.assignment.lits l.values.levels.items l.values.reasons.items;
  met : IfSome l.conflict (λ k. IsInConflict l.region.held l.values.assignment.lits k);
  settled : IfNone l.conflict (AreSettledIn l.region.held l.watches.links.lists l.values.assignment.lits);
}

abbrev pub decreases-loop-conflict : goal.decreases-loop-conflict
decreases-loop-conflict l = length (list_at l.watches.links.lists 0)
