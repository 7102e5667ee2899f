use Rattle.std.proofs.Common.{◌≡◌, length}
use Rattle.blif_defs.specs.Lines.{trimmed}
use Rattle.blif_read.proofs.line.trimmed.Given as goal

-- the rest has the trimmed line of the whole
abbrev pub invariant-loop-rest : goal.invariant-loop-rest
invariant-loop-rest l = trimmed l.rest ≡ trimmed l.line

-- the rest gets shorter
abbrev pub decreases-loop-rest : goal.decreases-loop-rest
decreases-loop-rest l = length l.rest
