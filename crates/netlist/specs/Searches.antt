-- The search for an order as it stands in memory.
use Rattle.std.specs.Prelude.{ℕ}
use Rattle.net_defs.specs.Networks.{Network}
use Rattle.netlist.specs.Sortings.{IsSorting, work}
use Rattle.netlist.specs.declared.order.Sorting.{Sorting}

-- the search stands as it must
abbrev pub IsSound : Network → Sorting → Type 0
IsSound net s = IsSorting net s.states.items s.left.items s.stack.items s.order.items

-- what is left to do for the search
abbrev pub work_of : Sorting → ℕ
work_of s = work s.states.items s.left.items s.stack.items
