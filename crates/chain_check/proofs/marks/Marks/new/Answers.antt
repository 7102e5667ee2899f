use Rattle.std.proofs.Common.{◌+◌, ◌*◌, arith}
use Rattle.chain_check.proofs.KeptLemmas.{kept_zeros}
use Rattle.chain_check.proofs.marks.Marks.new.Goals as goal

-- zeros for all literals are right marks
pub invariant_of-result : goal.invariant_of-result
invariant_of-result c =
    let made = (c.in_ok-numbers.ensures {u = tt}).items_if_clones_equal in
    let bits = c.ranges.variables in
    kept_zeros c.args.variables c.in_ok-numbers.numbers.items (2 * c.args.variables + 2) (made (λ y e. e)) (omega arith)
