use Rattle.std.proofs.Common.{arith}
use Rattle.chain_check.proofs.trace.check_room.Goals as goal

-- a trace without a fault that ends with the empty clause refutes the list
pub returns-then-ends_empty-clause-sound : goal.returns-then-ends_empty-clause-sound
returns-then-ends_empty-clause-sound c same =
    let all = c.loop-k-test.false in
    let len = c.len-k-end.ensures.len in
    c.refutation_is_sound.ensures c.args.f.now.variables c.args.f.now.clauses c.args.t.now c.args.room.now.limit c.len-k-end.ensures.trace.earlier
    ((λ j below. c.loop-k.invariant.right j (omega arith)), c.ends_empty.ensures.0 c.if-ends_empty.true)
