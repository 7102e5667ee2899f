use Rattle.std.proofs.Common.{◌≤◌, arith}
use Rattle.sat_trail.proofs.SearchLemmas.{next_too}
use Rattle.sat_trail.proofs.tests.are_over.Goals as goal

pub loop-m-preserved : goal.loop-m-preserved
loop-m-preserved c =
    next_too (λ m. m.variable ≤ c.args.variables) c.args.lits.now c.loop-m.m-index c.m-item.result
    c.loop-m-test.true c.m-item.is c.loop-m.invariant
    (let is = c.variable.ensures.variable in let test = c.if-variable-variables.false in omega arith)
