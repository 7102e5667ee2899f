use Rattle.std.proofs.Common.{arith}
use Rattle.flat_lists.proofs.EndLemmas.{begin_of_later}
use Rattle.flat_lists.proofs.lists.begin.Goals as goal

-- a list behind another begins where that one ends
pub returns-else-k-eq0 : goal.returns-else-k-eq0
returns-else-k-eq0 c = begin_of_later c.args.ends.now c.args.k (omega arith)
