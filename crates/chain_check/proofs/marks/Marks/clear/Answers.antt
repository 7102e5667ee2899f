use Rattle.chain_check.proofs.KeptLemmas.{fresh_next, running_none, kept_cleared}
use Rattle.chain_check.proofs.marks.Marks.clear.Goals as goal

-- with a later first number the marks are right
pub invariant_of-self : goal.invariant_of-self
invariant_of-self c =
    let m = c.self.inside in
    kept_cleared m.variables m.numbers.items m.first m.current m.count c.self.invariant

-- no number is from the chain, so the running clause is empty
pub returns-clause-running : goal.returns-clause-running
returns-clause-running c =
    let m = c.self.inside in
    running_none m.variables m.numbers.items m.first m.current m.count c.self.invariant

-- no number is the step's, so it adds nothing
pub returns-clause-fresh : goal.returns-clause-fresh
returns-clause-fresh c =
    let m = c.self.inside in
    fresh_next m.variables m.numbers.items m.first m.current m.count c.self.invariant
