use Rattle.std.proofs.Common.{ap, arith}
use Rattle.assignment.specs.Values.{Values}
use Rattle.assignment.proofs.ApartLemmas.{few_literals}
use Rattle.assignment.proofs.assignment.Assignment.len.Goals as goal

pub returns-clause-few : goal.returns-clause-few
returns-clause-few c =
    let few = few_literals c.self.inside.variables c.self.inside.lits.items c.self.invariant.0.known in
    let seen = ap (λ (v : Values). v.variables) c.self.view_is in
    let len = c.len.ensures in
    omega arith

pub returns-clause-small : goal.returns-clause-small
returns-clause-small c =
    let few = few_literals c.self.inside.variables c.self.inside.lits.items c.self.invariant.0.known in
    let small = c.self.invariant.0.small in
    let len = c.len.ensures in
    omega arith
