use Rattle.std.proofs.Common.{refl, ap, arith}
use Rattle.chain_check.specs.Marks.{Marked}
use Rattle.chain_check.proofs.KeptLemmas.{some_counted, kept_removed, length-removed, Has-removed, fresh_removed, found, not_running, Has-absent}
use Rattle.chain_check.proofs.marks.Marks.remove.Goals as goal

-- a literal that isn't there leaves the running clause without it
pub returns-then-number-self-clause-running : goal.returns-then-number-self-clause-running
returns-then-number-self-clause-running c =
    let m = c.self.inside in
    let size = ap (λ (v : Marked). v.variables) c.self.view_is in
    Has-absent m.variables m.numbers.items m.first m.current m.count c.self.invariant
    c.args.self.now.running c.args.self.now.fresh
    (ap (λ (v : Marked). v.running) c.self.view_is) (ap (λ (v : Marked). v.fresh) c.self.view_is)
    c.args.l (omega arith) c.code-place.result c.index.result.now c.code-place.ensures.code c.index.ensures (let e = c.from-number.ensures in omega arith)

-- a literal with an earlier number isn't there
pub returns-then-number-self-clause-found : goal.returns-then-number-self-clause-found
returns-then-number-self-clause-found c =
    let m = c.self.inside in
    let size = ap (λ (v : Marked). v.variables) c.self.view_is in (
      λ e. absurd cc,
      λ h. absurd (not_running m.variables m.numbers.items m.first m.current m.count c.self.invariant
          c.args.self.now.running c.args.self.now.fresh
          (ap (λ (v : Marked). v.running) c.self.view_is) (ap (λ (v : Marked). v.fresh) c.self.view_is)
          c.args.l (omega arith) c.code-place.result c.index.result.now c.code-place.ensures.code c.index.ensures (let e = c.from-number.ensures in omega arith) h),
    )

-- where a literal stands, one is counted
pub overflow_sub-self : goal.overflow_sub-self
overflow_sub-self c =
    let m = c.self.inside in
    let size = ap (λ (v : Marked). v.variables) c.self.view_is in
    some_counted m.variables m.numbers.items m.first m.current m.count c.self.invariant
    c.args.self.now.running c.args.self.now.fresh
    (ap (λ (v : Marked). v.running) c.self.view_is) (ap (λ (v : Marked). v.fresh) c.self.view_is)
    c.args.l (omega arith) c.code-place.result c.index.result.now c.code-place.ensures.code c.index.ensures (let e = c.from-number.ensures in omega arith) c.requires.between_steps

-- with the number 0 in the literal's place the marks are right
pub invariant_of-self : goal.invariant_of-self
invariant_of-self c =
    let m = c.self.inside in
    let size = ap (λ (v : Marked). v.variables) c.self.view_is in
    kept_removed m.variables m.numbers.items m.first m.current m.count c.self.invariant
    c.args.self.now.running c.args.self.now.fresh
    (ap (λ (v : Marked). v.running) c.self.view_is) (ap (λ (v : Marked). v.fresh) c.self.view_is)
    c.args.l (omega arith) c.code-place.result c.index.result.now c.code-place.ensures.code c.index.ensures (let e = c.from-number.ensures in omega arith) c.requires.between_steps

-- the running clause without the literal has its other ones
pub returns-clause-running : goal.returns-clause-running
returns-clause-running c =
    let m = c.self.inside in
    let size = ap (λ (v : Marked). v.variables) c.self.view_is in
    Has-removed m.variables m.numbers.items m.first m.current m.count c.self.invariant
    c.args.self.now.running c.args.self.now.fresh
    (ap (λ (v : Marked). v.running) c.self.view_is) (ap (λ (v : Marked). v.fresh) c.self.view_is)
    c.args.l (omega arith) c.code-place.result c.index.result.now c.code-place.ensures.code c.index.ensures

-- the step still adds nothing
pub returns-clause-fresh : goal.returns-clause-fresh
returns-clause-fresh c =
    let m = c.self.inside in
    let size = ap (λ (v : Marked). v.variables) c.self.view_is in
    fresh_removed m.variables m.numbers.items m.first m.current m.count c.self.invariant
    c.args.self.now.running c.args.self.now.fresh
    (ap (λ (v : Marked). v.running) c.self.view_is) (ap (λ (v : Marked). v.fresh) c.self.view_is)
    c.args.l (omega arith) c.code-place.result c.index.result.now c.code-place.ensures.code c.index.ensures c.requires.between_steps

-- a literal with a number from the chain is there
pub returns-clause-found : goal.returns-clause-found
returns-clause-found c =
    let m = c.self.inside in
    let size = ap (λ (v : Marked). v.variables) c.self.view_is in (
      λ e. found m.variables m.numbers.items m.first m.current m.count c.self.invariant
          c.args.self.now.running c.args.self.now.fresh
          (ap (λ (v : Marked). v.running) c.self.view_is) (ap (λ (v : Marked). v.fresh) c.self.view_is)
          c.args.l (omega arith) c.code-place.result c.index.result.now c.code-place.ensures.code c.index.ensures (let e = c.from-number.ensures in omega arith) c.requires.between_steps,
      λ h. refl,
    )

-- the running clause has one literal less
pub returns-clause-fewer : goal.returns-clause-fewer
returns-clause-fewer c =
    let m = c.self.inside in
    let size = ap (λ (v : Marked). v.variables) c.self.view_is in
    length-removed m.variables m.numbers.items m.first m.current m.count c.self.invariant
    c.args.self.now.running c.args.self.now.fresh
    (ap (λ (v : Marked). v.running) c.self.view_is) (ap (λ (v : Marked). v.fresh) c.self.view_is)
    c.args.l (omega arith) c.code-place.result c.index.result.now c.code-place.ensures.code c.index.ensures (let e = c.from-number.ensures in omega arith) c.requires.between_steps
