use Rattle.std.proofs.Common.{arith}
use Rattle.conflict_analysis.proofs.EndLemmas.{roots_before, apart_running, lesson_of, asserting_of}
use Rattle.conflict_analysis.proofs.analysis.analyze.Goals as goal

-- no literal of level 0 is behind the one that is left
pub to_few-requires-clause-roots : goal.to_few-requires-clause-roots
to_few-requires-clause-roots c =
    roots_before c.args.log.now c.args.present c.args.trail.now c.args.levels.now c.args.reasons.now c.args.indices.now c.requires.reasoned
    c.to_one-from.result c.to_one-from.new.chain c.requires.high c.to_one-from.ensures.split c.to_one-from.ensures.one c.to_one-from.ensures.below
    c.to_one-from.ensures.chain.all_false

-- all literals are false
pub list-requires-clause-consistent : goal.list-requires-clause-consistent
list-requires-clause-consistent c =
    apart_running c.args.log.now c.args.present c.args.trail.now c.args.levels.now c.args.reasons.now c.args.indices.now c.requires.reasoned
    c.to_few.new.chain.lits c.to_few.ensures.chain.all_false

-- the running clause is the lesson
pub returns-clause-lesson : goal.returns-clause-lesson
returns-clause-lesson c =
    lesson_of c.args.log.now c.args.present c.args.trail.now c.args.levels.now c.args.reasons.now c.args.indices.now c.requires.reasoned
    c.to_few.new.chain c.list.new.lits.items c.to_few.ensures.chain c.to_few.ensures.roots c.list.ensures.lits c.list.ensures.ordered
    (let few = c.list.ensures.few in
    let first = c.to_few.ensures.room in
    let second = c.to_one-from.ensures.room in
    let third = c.start.ensures.variables in
    let room = c.requires.room in omega arith)

-- one literal of the present level was left, and stays
pub returns-clause-asserting : goal.returns-clause-asserting
returns-clause-asserting c =
    asserting_of c.args.log.now c.args.present c.args.trail.now c.args.levels.now c.args.reasons.now c.args.indices.now c.requires.reasoned
    c.to_few.new.chain c.to_one-from.new.chain.present c.list.new.lits.items c.to_few.ensures.chain c.to_few.ensures.split c.to_one-from.ensures.one
    c.to_few.ensures.present c.list.ensures.lits
