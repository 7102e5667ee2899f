use Rattle.std.proofs.Common.{◌≡◌}
use Rattle.fabric_defs.specs.Numbered.{list_of}
use Rattle.miter_places.specs.Places.{first_of_node}
use Rattle.miter_places.proofs.places.first_of_nodes.Given as goal

abbrev pub invariant-loop-v : goal.invariant-loop-v
invariant-loop-v l = record {
  firsts : l.firsts.items ≡ list_of l.v (first_of_node l.net);
  next : l.next ≡ first_of_node l.net l.v;
}
