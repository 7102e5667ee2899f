use Rattle.std.proofs.Common.{get_or}
use Rattle.std.proofs.lemmas.List.{get_or_default}
use Rattle.lut_map.proofs.MarkLemmas.{marked_more}
use Rattle.lut_map.proofs.needed.mark_nodes.Goals as goal

pub loop-signal-preserved : goal.loop-signal-preserved
loop-signal-preserved c =
    let signals = c.args.signals.now in
    let i = c.loop-signal.signal-index in
    marked_more c.args.inputs c.args.marks.now.items signals i (get_or signals i 0) c.loop-signal.marks.items c.mark_node.new.marks.items
    c.loop-signal-test.true (get_or_default signals i (get_or signals i 0) 0 c.loop-signal-test.true) c.loop-signal.invariant
    c.mark_node.ensures.count c.mark_node.ensures.marks
