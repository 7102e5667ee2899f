use Rattle.std.proofs.Common.{◌≡◌, ℕ, List, length, take}
use Rattle.net_defs.specs.Evaluation.{Settles}
use Rattle.netlist.specs.Places.{SameBits}
use Rattle.netlist.proofs.EvalLemmas.{Swept}
use Rattle.netlist.proofs.eval.sweep.Given as goal

-- the nodes of the order so far have the bits of each assignment that agrees at the inputs
abbrev pub invariant-loop-v : goal.invariant-loop-v
invariant-loop-v l = record {
  places : length l.s ≡ length l.fn.s;
  swept : (x a : List ℕ) → Settles l.network x a → SameBits (length l.network.inputs) l.fn.s a → Swept l.network (take l.v-index l.order) l.s a;
}
