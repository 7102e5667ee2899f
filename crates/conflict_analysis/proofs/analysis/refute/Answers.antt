use Rattle.std.proofs.Common.{[], sym, arith}
use Rattle.conflict_analysis.proofs.EndLemmas.{nothing_left, lesson_of}
use Rattle.conflict_analysis.proofs.analysis.refute.Goals as goal

-- nothing is left of the running clause
pub returns-clause-lesson : goal.returns-clause-lesson
returns-clause-lesson c =
    let none =
    nothing_left c.args.log.now c.args.trail.now c.args.levels.now c.args.reasons.now c.args.indices.now c.requires.reasoned
    c.to_few.new.chain.lits c.to_few.ensures.chain.all_false c.to_few.ensures.roots in
    lesson_of c.args.log.now 0 c.args.trail.now c.args.levels.now c.args.reasons.now c.args.indices.now c.requires.reasoned
    c.to_few.new.chain [] c.to_few.ensures.chain c.to_few.ensures.roots (sym none) tt (omega arith)
