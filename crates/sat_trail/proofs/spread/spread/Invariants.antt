use Rattle.std.proofs.Common.{◌≡◌, length, IfSome, IfNone}
use Rattle.clause_defs.specs.Literals.{negation}
use Rattle.clause_defs.specs.Clauses.{Has}
use Rattle.link_lists.specs.Linked.{list_at}
use Rattle.sat_trail.specs.Watching.{AreAnswered}
use Rattle.sat_trail.specs.Visits.{IsInConflict}
use Rattle.sat_trail.specs.Looks.{IsVisiting, HasMarks, Keeps}
use Rattle.sat_trail.proofs.spread.spread.Given as goal

abbrev pub invariant-loop-conflict : goal.invariant-loop-conflict
invariant-loop-conflict l = record {
  visiting : IsVisiting l.region.held l.values.assignment.variables l.watches.watch.items l.watches.links l.x;
  marks : HasMarks l.values.assignment.variables l.values.levels.items l.values.reasons.items;
  variables : l.values.assignment.variables ≡ l.fn.values.assignment.variables;
  loose : list_at l.watches.links.lists 1 ≡ list_at l.fn.watches.links.lists 1;
  is_false : Has l.values.assignment.lits (negation l.x);
  keeps : Keeps l.region.held l.fn.values.assignment.variables l.level (list_at l.fn.watches.links.lists 1) (list_at l.watches.links.lists 1)
      l.fn.watches.watch.items l.fn.values.assignment.lits l.fn.values.levels.items l.fn.values.reasons.items
      l.watches.watch.items l.values.assignment.lits l.values.levels.items l.values.reasons.items;
  met : IfSome l.conflict (λ k. IsInConflict l.region.held l.values.assignment.lits k);
  answered : IfNone l.conflict (AreAnswered l.watches.watch.items l.watches.links.lists l.values.assignment.lits l.x);
}

abbrev pub decreases-loop-conflict : goal.decreases-loop-conflict
decreases-loop-conflict l = length (list_at l.watches.links.lists 0)
