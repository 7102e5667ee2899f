use Rattle.std.proofs.Common.{arith}
use Rattle.net_defs.specs.Alignments.{IsMoved}
use Rattle.netlist.proofs.ZipLemmas.{all_zip-more}
use Rattle.netlist.proofs.moves.Moves.fan_ins.Goals as goal

-- one fan-in more is moved to its new place
pub loop-s-preserved : goal.loop-s-preserved
loop-s-preserved c = λ places h.
    rw c.in_ok-push.ensures.items
    (all_zip-more (IsMoved places) c.args.fan_ins.now c.loop-s.moved.items c.loop-s.s-index 0 c.signal.result (omega arith)
    (c.loop-s.invariant places h) (c.signal.ensures places h))
