use Rattle.std.proofs.Common.{take}
use Rattle.lut_map.proofs.MarkLemmas.{AreMarked}
use Rattle.lut_map.proofs.needed.mark_nodes.Given as goal

abbrev pub invariant-loop-signal : goal.invariant-loop-signal
invariant-loop-signal l = AreMarked l.inputs l.initial.marks.items (take l.signal-index l.signals) l.marks.items
