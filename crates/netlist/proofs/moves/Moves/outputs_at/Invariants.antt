use Rattle.std.proofs.Common.{ℕ, List, take}
use Rattle.std.specs.List.{AllZip}
use Rattle.net_defs.specs.Alignments.{IsOutputFrom}
use Rattle.netlist.specs.Moves.{IsInverse}
use Rattle.netlist.proofs.moves.Moves.outputs_at.Given as goal

-- the outputs so far are moved from their places
abbrev pub invariant-loop-place : goal.invariant-loop-place
invariant-loop-place l = (places : List ℕ) → IsInverse places l.self → AllZip (IsOutputFrom l.outputs places) (take l.place-index l.order) l.moved.items
