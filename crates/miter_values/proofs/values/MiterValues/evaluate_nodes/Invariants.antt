use Rattle.std.proofs.Common.{take}
use Rattle.miter_values.specs.Growing.{Grows}
use Rattle.miter_values.specs.Parts.{circuits_of, IsOfNodes}
use Rattle.miter_values.proofs.values.MiterValues.evaluate_nodes.Given as goal

-- the nodes of the order so far have their values
abbrev pub invariant-loop-v : goal.invariant-loop-v
invariant-loop-v l = Grows (circuits_of l.self.net l.self.cells) l.initial.e l.e (IsOfNodes l.self.net (take l.v-index l.v-items))
