use Rattle.std.proofs.Common.{◌≡◌, ◌<◌, length, slice_index}
use Rattle.netlist.specs.Sortings.{state_at, StaysDone}
use Rattle.netlist.specs.Searches.{IsSound, work_of}
use Rattle.netlist.specs.declared.order.State.TheVariants.{New}
use Rattle.netlist.proofs.order.Sorting.settle.Given as goal

-- the root stands at the bottom of the stack, and closed nodes stay closed
abbrev pub invariant-loop-v : goal.invariant-loop-v
invariant-loop-v l = record {
  sound : IsSound l.network l.self;
  stays : StaysDone l.fn.self.states.items l.self.states.items;
  bottom : 0 < length l.self.stack.items → slice_index l.self.stack.items 0 ≡ l.root;
  met : state_at l.self.states.items l.root ≡ New → ⊥;
}

-- what is left to open and to look at
abbrev pub decreases-loop-v : goal.decreases-loop-v
decreases-loop-v l = work_of l.self
