use Rattle.std.proofs.Common.{take}
use Rattle.net_defs.specs.Interfaces.{StandAt}
use Rattle.netlist.specs.Partners.{port_names}
use Rattle.netlist.proofs.ports.places_of.Given as goal

-- the wanted names so far stand at the places
abbrev pub invariant-loop-i : goal.invariant-loop-i
invariant-loop-i l = StandAt (port_names l.names) l.places.items (take l.i (port_names l.wanted))
