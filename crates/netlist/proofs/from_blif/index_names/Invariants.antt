use Rattle.std.proofs.Common.{take}
use Rattle.netlist.specs.Index.{IsIndexOf}
use Rattle.netlist.proofs.from_blif.index_names.Given as goal

-- the index has the names so far
abbrev pub invariant-loop-i : goal.invariant-loop-i
invariant-loop-i l = IsIndexOf l.index (take l.i l.names)
