use Rattle.std.proofs.Common.{take}
use Rattle.extract.proofs.ConeLemmas.{IsMarkedUpTo}
use Rattle.extract.proofs.cone.mark_cells.Given as goal

-- the sources so far have marked their cells
abbrev pub invariant-loop-source : goal.invariant-loop-source
invariant-loop-source l = IsMarkedUpTo l.initial.cone.items (take l.source-index l.sources) l.cone.items
