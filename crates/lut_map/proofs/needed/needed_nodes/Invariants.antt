use Rattle.std.proofs.Common.{false, length, replicate, take}
use Rattle.net_defs.specs.Evaluation.{output_signals}
use Rattle.lut_map.proofs.MarkLemmas.{AreMarked, IsSwept}
use Rattle.lut_map.proofs.needed.needed_nodes.Given as goal

abbrev pub invariant-loop-o : goal.invariant-loop-o
invariant-loop-o l = AreMarked (length l.net.inputs) (replicate (length l.net.nodes) false) (take l.o (output_signals l.net)) l.marks.items

abbrev pub invariant-loop-j : goal.invariant-loop-j
invariant-loop-j l = IsSwept l.net l.order l.j l.marks.items
