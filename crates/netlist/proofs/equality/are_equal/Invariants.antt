use Rattle.std.proofs.Common.{◌≡◌, take}
use Rattle.netlist.proofs.equality.are_equal.Given as goal

-- the two lists agree so far
abbrev pub invariant-loop-i : goal.invariant-loop-i
invariant-loop-i g l = take l.i l.a ≡ take l.i l.b
