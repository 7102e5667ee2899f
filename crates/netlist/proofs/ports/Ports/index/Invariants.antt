use Rattle.std.proofs.Common.{take}
use Rattle.netlist.specs.Index.{IsIndexOf}
use Rattle.netlist.specs.Partners.{port_names}
use Rattle.netlist.proofs.ports.Ports.index.Given as goal

-- the index has the names so far
abbrev pub invariant-loop-i : goal.invariant-loop-i
invariant-loop-i l = IsIndexOf l.index (take l.i (port_names l.self))
