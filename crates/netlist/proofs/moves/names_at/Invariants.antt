use Rattle.std.proofs.Common.{take}
use Rattle.net_defs.specs.Interfaces.{StandAt}
use Rattle.netlist.proofs.moves.names_at.Given as goal

-- the names so far stand at the places
abbrev pub invariant-loop-place : goal.invariant-loop-place
invariant-loop-place l = StandAt l.names (take l.place-index l.places) l.found.items
