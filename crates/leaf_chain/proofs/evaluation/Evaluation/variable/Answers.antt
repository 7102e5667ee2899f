use Rattle.std.proofs.Common.{length, ap, arith}
use Rattle.leaf_defs.specs.Evaluated.{Evaluated}
use Rattle.chain_check.proofs.ClauseLists.{Has-get}
use Rattle.leaf_chain.proofs.evaluation.Evaluation.variable.Goals as goal

pub returns-clause-within : goal.returns-clause-within
returns-clause-within c =
    let many = ap (λ (e : Evaluated). length e.order) c.self.view_is in
    let places = ap (λ (e : Evaluated). length e.values) c.self.view_is in
    let few = c.self.invariant.few in
    let range = c.self.invariant.within c.index.result.now
    (Has-get c.self.inside.order.items c.args.i c.index.result.now (omega (arith, c.requires, many)) c.index.ensures) in
    let high = range.1 in (range.0, omega arith, omega arith)
