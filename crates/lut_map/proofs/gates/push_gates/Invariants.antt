use Rattle.std.proofs.Common.{length}
use Rattle.lut_map.proofs.GateSteps.{IsOnTheWay}
use Rattle.lut_map.proofs.gates.push_gates.Given as goal

abbrev pub invariant-loop-cells : goal.invariant-loop-cells
invariant-loop-cells l = IsOnTheWay l.fn.cells l.gate l.negated l.first l.fn.terms.items l.cells l.terms.items

abbrev pub decreases-loop-cells : goal.decreases-loop-cells
decreases-loop-cells l = length l.terms.items
