use Rattle.std.proofs.Common.{arith}
use Rattle.lut_map.proofs.GateSteps.{groups_more}
use Rattle.lut_map.proofs.gates.push_round.Goals as goal

pub loop-i-preserved : goal.loop-i-preserved
loop-i-preserved c =
    groups_more c.args.cells.now c.args.gate c.args.first c.args.terms.now c.loop-i.cells c.loop-i.left.items c.loop-i.i
    c.group_of-group.result.now _ c.push_group.new.cells c.in_ok-term.term c.push.new.self.items c.loop-i.invariant
    c.group_of-group.ensures (omega (arith, c.len.ensures.count)) c.in_ok-term.ensures.cells c.in_ok-term.ensures.term
    c.in_ok-push.ensures.items
