use Rattle.fabric_defs.specs.Bits.{IsBits}
use Rattle.produce.proofs.ComparingLemmas.{HaveValues}
use Rattle.produce.proofs.learning.inputs_at.Given as goal

-- the bits so far are those of their variables
abbrev pub invariant-loop-i : goal.invariant-loop-i
invariant-loop-i l = record {
  bits : IsBits l.inputs l.x;
  values : HaveValues l.solver.trail.lits l.x l.i;
}
