use Rattle.std.proofs.Common.{refl, arith}
use Rattle.fabric.proofs.RangeLemmas.{IsConfig-judged}
use Rattle.fabric.proofs.config.Config.new.Goals as goal

-- words that were judged to be in their ranges are a configuration
pub invariant_of-result : goal.invariant_of-result
invariant_of-result c =
    IsConfig-judged c.args.g c.args.words.items c.words.ensures.known (omega arith) (rw c.deref.ensures.value at c.in_ok-judge.ensures.ok)

-- so they are the configuration's
pub returns : goal.returns
returns c = (omega arith, invariant_of-result c, refl)
