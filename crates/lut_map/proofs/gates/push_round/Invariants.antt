use Rattle.lut_map.proofs.GateSteps.{AreGroups}
use Rattle.lut_map.proofs.gates.push_round.Given as goal

abbrev pub invariant-loop-i : goal.invariant-loop-i
invariant-loop-i l = AreGroups l.fn.cells l.gate l.first l.terms l.cells l.left.items l.i
