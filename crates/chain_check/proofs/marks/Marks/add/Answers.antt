use Rattle.std.proofs.Common.{ap, arith}
use Rattle.chain_check.specs.Marks.{Marked}
use Rattle.chain_check.proofs.KeptLemmas.{kept_added, running_added, Has-added, length-added, Has-there, not_running}
use Rattle.chain_check.proofs.marks.Marks.add.Goals as goal

-- a literal that stood there already changes nothing
pub returns-then-number-self-clause-fresh : goal.returns-then-number-self-clause-fresh
returns-then-number-self-clause-fresh c =
    let m = c.self.inside in
    let size = ap (λ (v : Marked). v.variables) c.self.view_is in
    Has-there m.variables m.numbers.items m.first m.current m.count c.self.invariant
    c.args.self.now.running c.args.self.now.fresh
    (ap (λ (v : Marked). v.running) c.self.view_is) (ap (λ (v : Marked). v.fresh) c.self.view_is)
    c.args.l (omega arith) c.code-place.result c.index.result.now c.code-place.ensures.code c.index.ensures (let e = c.from-number.ensures in omega arith)

-- with the step's number in the literal's place the marks are right
pub invariant_of-self : goal.invariant_of-self
invariant_of-self c =
    let m = c.self.inside in
    let size = ap (λ (v : Marked). v.variables) c.self.view_is in
    kept_added m.variables m.numbers.items m.first m.current m.count c.self.invariant
    c.args.self.now.running c.args.self.now.fresh
    (ap (λ (v : Marked). v.running) c.self.view_is) (ap (λ (v : Marked). v.fresh) c.self.view_is)
    c.args.l (omega arith) c.code-place.result c.index.result.now c.code-place.ensures.code c.index.ensures (let e = c.from-number.ensures in omega arith)

-- the running clause stays as it is
pub returns-clause-running : goal.returns-clause-running
returns-clause-running c =
    let m = c.self.inside in
    let size = ap (λ (v : Marked). v.variables) c.self.view_is in
    running_added m.variables m.numbers.items m.first m.current m.count c.self.invariant
    c.args.self.now.running c.args.self.now.fresh
    (ap (λ (v : Marked). v.running) c.self.view_is) (ap (λ (v : Marked). v.fresh) c.self.view_is)
    c.args.l (omega arith) c.code-place.result c.index.result.now c.code-place.ensures.code c.index.ensures (let e = c.from-number.ensures in omega arith)

-- the literal is one that the step adds
pub returns-clause-fresh : goal.returns-clause-fresh
returns-clause-fresh c =
    let m = c.self.inside in
    let size = ap (λ (v : Marked). v.variables) c.self.view_is in
    Has-added m.variables m.numbers.items m.first m.current m.count c.self.invariant
    c.args.self.now.running c.args.self.now.fresh
    (ap (λ (v : Marked). v.running) c.self.view_is) (ap (λ (v : Marked). v.fresh) c.self.view_is)
    c.args.l (omega arith) c.code-place.result c.index.result.now c.code-place.ensures.code c.index.ensures (let e = c.from-number.ensures in omega arith)

-- the step adds one literal more
pub returns-clause-new : goal.returns-clause-new
returns-clause-new c =
    let m = c.self.inside in
    let size = ap (λ (v : Marked). v.variables) c.self.view_is in
    length-added m.variables m.numbers.items m.first m.current m.count c.self.invariant
    c.args.self.now.running c.args.self.now.fresh
    (ap (λ (v : Marked). v.running) c.self.view_is) (ap (λ (v : Marked). v.fresh) c.self.view_is)
    c.args.l (omega arith) c.code-place.result c.index.result.now c.code-place.ensures.code c.index.ensures (let e = c.from-number.ensures in omega arith)

-- a literal with an earlier number isn't in the running clause
pub returns-clause-absent : goal.returns-clause-absent
returns-clause-absent c =
    let m = c.self.inside in
    let size = ap (λ (v : Marked). v.variables) c.self.view_is in
    not_running m.variables m.numbers.items m.first m.current m.count c.self.invariant
    c.args.self.now.running c.args.self.now.fresh
    (ap (λ (v : Marked). v.running) c.self.view_is) (ap (λ (v : Marked). v.fresh) c.self.view_is)
    c.args.l (omega arith) c.code-place.result c.index.result.now c.code-place.ensures.code c.index.ensures (let e = c.from-number.ensures in omega arith)
