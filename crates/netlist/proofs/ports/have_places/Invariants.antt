use Rattle.std.proofs.Common.{take, All, Contains}
use Rattle.netlist.specs.Partners.{port_names}
use Rattle.netlist.proofs.ports.have_places.Given as goal

-- the wanted names so far are among the names
abbrev pub invariant-loop-i : goal.invariant-loop-i
invariant-loop-i l = All (Contains (port_names l.names)) (take l.i (port_names l.wanted))
