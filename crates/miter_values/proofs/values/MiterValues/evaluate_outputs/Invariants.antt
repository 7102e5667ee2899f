use Rattle.miter_values.specs.Parts.{AreSame}
use Rattle.miter_values.proofs.values.MiterValues.evaluate_outputs.Given as goal

-- the outputs so far are the same
abbrev pub invariant-loop-o : goal.invariant-loop-o
invariant-loop-o l = AreSame l.self l.initial.e l.e l.o
