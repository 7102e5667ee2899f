use Rattle.std.proofs.Common.{◌-◌, vec_len, arith}
use Rattle.trace_places.proofs.OtherLemmas.{longer_same}
use Rattle.trace_places.proofs.others.have_marks.Goals as goal

-- longer marks say the same
pub returns-clause-same : goal.returns-clause-same
returns-clause-same c i =
    let few = c.if-len-ge-MARKS.false in
    let len = c.len.ensures in
    let ok = c.args.marks.now.ok.0 in
    longer_same c.args.marks.now.items c.resize.new.self.items 262144 (262144 - vec_len c.args.marks.now) i (omega arith) (c.in_ok-resize.ensures {u = tt}).items
