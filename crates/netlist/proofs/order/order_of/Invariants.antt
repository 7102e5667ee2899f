use Rattle.std.proofs.Common.{◌≡◌, ℕ, ◌<◌, []}
use Rattle.netlist.specs.Sortings.{state_at}
use Rattle.netlist.specs.Searches.{IsSound}
use Rattle.netlist.specs.declared.order.State.TheVariants.{Done}
use Rattle.netlist.proofs.order.order_of.Given as goal

-- the nodes so far are closed, and the stack is empty
abbrev pub invariant-loop-v : goal.invariant-loop-v
invariant-loop-v l = record {
  sound : IsSound l.network l.sorting;
  empty : l.sorting.stack.items ≡ [];
  done : (u : ℕ) → u < l.v → state_at l.sorting.states.items u ≡ Done;
}
