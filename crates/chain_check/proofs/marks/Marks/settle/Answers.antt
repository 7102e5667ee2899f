use Rattle.std.proofs.Common.{ap, arith}
use Rattle.chain_check.specs.Marks.{Marked}
use Rattle.chain_check.proofs.KeptLemmas.{fresh_next, kept_settled, settled_bound, Has-settled}
use Rattle.chain_check.proofs.marks.Marks.settle.Goals as goal

-- the literals that are counted are few enough
pub overflow_add-self : goal.overflow_add-self
overflow_add-self c =
    let m = c.self.inside in
    let bound = settled_bound m.variables m.numbers.items m.first m.current m.count c.self.invariant c.args.self.now.running c.args.self.now.fresh
    (ap (λ (v : Marked). v.running) c.self.view_is) (ap (λ (v : Marked). v.fresh) c.self.view_is) c.args.added c.requires.counted in omega arith

-- with the next number the marks are right
pub invariant_of-self : goal.invariant_of-self
invariant_of-self c =
    let m = c.self.inside in
    kept_settled m.variables m.numbers.items m.first m.current m.count c.self.invariant c.args.self.now.running c.args.self.now.fresh
    (ap (λ (v : Marked). v.running) c.self.view_is) (ap (λ (v : Marked). v.fresh) c.self.view_is) c.args.added c.requires.counted

-- what the step added stands in the running clause
pub returns-clause-running : goal.returns-clause-running
returns-clause-running c =
    let m = c.self.inside in
    Has-settled m.variables m.numbers.items m.first m.current m.count c.self.invariant c.args.self.now.running c.args.self.now.fresh
    (ap (λ (v : Marked). v.running) c.self.view_is) (ap (λ (v : Marked). v.fresh) c.self.view_is)

-- the next step has added nothing
pub returns-clause-fresh : goal.returns-clause-fresh
returns-clause-fresh c =
    let m = c.self.inside in
    fresh_next m.variables m.numbers.items m.first m.current m.count c.self.invariant
