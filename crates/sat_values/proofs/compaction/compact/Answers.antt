use Rattle.std.proofs.Common.{arith}
use Rattle.sat_values.proofs.CompactedLemmas.{copied_so_far, same_index_so_far}
use Rattle.sat_values.proofs.compaction.compact.Goals as goal

-- there are as many compacted clauses as were copied
pub copy_clause-requires-clause-as_many : goal.copy_clause-requires-clause-as_many
copy_clause-requires-clause-as_many c =
    let counted = c.len-k-end.ensures.len in
    let lt = c.loop-k-test.true in
    copied_so_far c.loop-k.short c.args.t c.loop-k.k (omega arith) c.loop-k.invariant

-- they have the same indices
pub copy_clause-requires-clause-same : goal.copy_clause-requires-clause-same
copy_clause-requires-clause-same c j lt =
    let counted = c.len-k-end.ensures.len in
    let within = c.loop-k-test.true in
    let many = copied_so_far c.loop-k.short c.args.t c.loop-k.k (omega arith) c.loop-k.invariant in
    same_index_so_far c.loop-k.short c.args.t c.loop-k.k j c.loop-k.invariant (omega arith)
