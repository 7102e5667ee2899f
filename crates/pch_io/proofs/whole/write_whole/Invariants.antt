use Rattle.std.proofs.Common.{length}
use Rattle.pch_io.proofs.whole.write_whole.Given as goal

-- how many bytes are left
abbrev pub decreases-loop-rest : goal.decreases-loop-rest
decreases-loop-rest g l = length l.rest
