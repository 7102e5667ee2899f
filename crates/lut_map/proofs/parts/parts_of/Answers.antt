use Rattle.std.proofs.Common.{◌<◌, arith, length}
use Rattle.lut_map.proofs.PartLemmas.{parts_more}
use Rattle.lut_map.proofs.parts.parts_of.Goals as goal

pub loop-v-preserved : goal.loop-v-preserved
loop-v-preserved c =
    let net = c.args.net.now in
    let marks = c.in_ok-needed.needed.items in
    let v = c.loop-v.v in
    let lt : v < length marks = omega (arith, c.in_ok-needed.ensures.count, c.nodes-count.ensures.count) in
    parts_more net marks v c.index.result.now c.loop-v.cells c.push_needed.new.cells c.loop-v.ends.items c.push.new.self.items c.len.result
    c.loop-v.invariant lt c.index.ensures c.in_ok-push_needed.ensures c.len.ensures.count c.in_ok-push.ensures.items
