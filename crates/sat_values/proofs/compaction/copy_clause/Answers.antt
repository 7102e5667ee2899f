use Rattle.std.proofs.Common.{sym, ◌∙◌, arith}
use Rattle.sat_values.proofs.compaction.copy_clause.Goals as goal

-- the index is a trace's, so it is 1 or more
pub push_compact-requires-clause-low : goal.push_compact-requires-clause-low
push_compact-requires-clause-low c = let low = c.index.ensures.trace.low c.args.k c.requires.within in let e = c.index.ensures.index in omega arith

-- the index is a trace's, so it is within the limit
pub push_compact-requires-clause-high : goal.push_compact-requires-clause-high
push_compact-requires-clause-high c = let high = c.index.ensures.trace.high c.args.k c.requires.within in let e = c.index.ensures.index in omega arith

-- no copied clause has the index, since no earlier one has it
pub push_compact-requires-clause-other : goal.push_compact-requires-clause-other
push_compact-requires-clause-other c j lt same =
    let as_many = c.requires.as_many in
    c.index.ensures.trace.distinct j c.args.k (omega arith) c.requires.within (sym (c.requires.same j (omega arith)) ∙ same ∙ c.index.ensures.index)

-- the index is a trace's, so it is 1 or more
pub push-requires-clause-low : goal.push-requires-clause-low
push-requires-clause-low c = let low = c.index-2.ensures.trace.low c.args.k c.requires.within in let e = c.index-2.ensures.index in omega arith

-- the index is a trace's, so it is within the limit
pub push-requires-clause-high : goal.push-requires-clause-high
push-requires-clause-high c = let high = c.index-2.ensures.trace.high c.args.k c.requires.within in let e = c.index-2.ensures.index in omega arith

-- no copied clause has the index, since no earlier one has it
pub push-requires-clause-other : goal.push-requires-clause-other
push-requires-clause-other c j lt same =
    let as_many = c.requires.as_many in
    c.index-2.ensures.trace.distinct j c.args.k (omega arith) c.requires.within (sym (c.requires.same j (omega arith)) ∙ same ∙ c.index-2.ensures.index)
