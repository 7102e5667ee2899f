use Rattle.std.proofs.Common.{arith}
use Rattle.chain_check.proofs.ClauseLists.{Has-get}
use Rattle.conflict_analysis.proofs.walk.is_covered.Goals as goal

-- each literal is over the variables
pub has-requires : goal.has-requires
has-requires c =
    let there = Has-get c.args.clause.now c.loop-m.m-index c.m-item.result c.loop-m-test.true c.m-item.is in
    c.requires.within c.m-item.result there

pub bounds-levels-variable : goal.bounds-levels-variable
bounds-levels-variable c =
    let there = Has-get c.args.clause.now c.loop-m.m-index c.m-item.result c.loop-m-test.true c.m-item.is in
    let within = c.requires.within c.m-item.result there in
    let levels = c.requires.levels in
    let is = c.variable.ensures.variable in omega arith
