use Rattle.std.proofs.Common.{ℕ, List, take}
use Rattle.std.specs.List.{AllZip}
use Rattle.net_defs.specs.Alignments.{IsMoved}
use Rattle.netlist.specs.Moves.{IsInverse}
use Rattle.netlist.proofs.moves.Moves.fan_ins.Given as goal

-- the fan-ins so far are moved
abbrev pub invariant-loop-s : goal.invariant-loop-s
invariant-loop-s l = (places : List ℕ) → IsInverse places l.self → AllZip (IsMoved places) (take l.s-index l.fan_ins) l.moved.items
