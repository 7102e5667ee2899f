use Rattle.std.proofs.Common.{arith}
use Rattle.chain_check.proofs.ClauseLists.{Has-get}
use Rattle.conflict_lesson.proofs.lesson.bump_all.Goals as goal

-- each literal's variable has a place
pub bump-requires : goal.bump-requires
bump-requires c =
    let there = Has-get c.args.clause.now c.loop-l.l-index c.l-item.result c.loop-l-test.true c.l-item.is in
    let within = c.requires c.l-item.result there in
    let same = c.loop-l.invariant in
    let is = c.variable.ensures.variable in omega arith
