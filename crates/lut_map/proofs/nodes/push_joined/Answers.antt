use Rattle.lut_map.proofs.NodeSteps.{joined_made}
use Rattle.lut_map.proofs.nodes.push_joined.Goals as goal

pub returns : goal.returns
returns c =
    joined_made c.args.cells.now c.push_rows.new.cells c.push_gates.new.cells c.args.on c.args.rows.now c.push_rows.new.room.ends.items
    c.len-first.result c.len-first.ensures.count c.in_ok-push_rows.ensures.cells c.in_ok-push_rows.ensures.ends c.in_ok-push_gates.ensures.cells
