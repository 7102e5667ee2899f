use Rattle.std.proofs.Common.{◌≡◌, length}
use Rattle.link_lists.specs.Linked.{list_at}
use Rattle.sat_trail.specs.Releases.{IsRemoving}
use Rattle.sat_trail.proofs.watches.Watches.remove.Given as goal

abbrev pub invariant-loop-v : goal.invariant-loop-v
invariant-loop-v l = record {
  watch : l.self.watch ≡ l.fn.self.watch;
  size : l.self.links.size ≡ l.fn.self.links.size;
  removing : IsRemoving l.fn.self.links.lists l.list l.w l.self.links.lists;
}

abbrev pub decreases-loop-v : goal.decreases-loop-v
decreases-loop-v l = length (list_at l.self.links.lists 0)
