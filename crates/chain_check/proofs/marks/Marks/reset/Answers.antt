use Rattle.std.proofs.Common.{vec_len, arith}
use Rattle.chain_check.proofs.KeptLemmas.{running_zeros, fresh_zeros, kept_zeros}
use Rattle.chain_check.proofs.marks.Marks.reset.Goals as goal

-- zeros for all literals are right marks
pub invariant_of-self : goal.invariant_of-self
invariant_of-self c =
    kept_zeros c.self.inside.variables c.fill.new.self.items (vec_len c.self.inside.numbers) (c.fill.ensures.items (λ y e. e))
    (let size = c.self.invariant.size in omega (arith, c.self.inside.numbers.ok.0))

-- zeros mark no literal of the running clause
pub returns-clause-running : goal.returns-clause-running
returns-clause-running c =
    running_zeros c.fill.new.self.items (vec_len c.self.inside.numbers) (c.fill.ensures.items (λ y e. e))

-- zeros mark no literal that a step adds
pub returns-clause-fresh : goal.returns-clause-fresh
returns-clause-fresh c =
    fresh_zeros c.fill.new.self.items (vec_len c.self.inside.numbers) (c.fill.ensures.items (λ y e. e))
