use Rattle.produce.proofs.ComparingLemmas.{AreSameTo}
use Rattle.produce.proofs.comparing.are_others.Given as goal

-- the bits so far are the same
abbrev pub invariant-loop-o : goal.invariant-loop-o
invariant-loop-o l = AreSameTo l.outputs l.pads l.o
