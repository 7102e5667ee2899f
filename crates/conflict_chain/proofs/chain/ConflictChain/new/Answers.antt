use Rattle.std.proofs.Common.{◌+◌, ◌*◌, arith}
use Rattle.std.specs.Vec.{vec_capacity}
use Rattle.conflict_chain.proofs.MarkLemmas.{kept_zeros}
use Rattle.conflict_chain.proofs.chain.ConflictChain.new.Goals as goal

-- zeros for all literals are right marks
pub invariant_of-result : goal.invariant_of-result
invariant_of-result c =
    let made = (c.in_ok-vec.ensures {u = tt}).items_if_clones_equal in
    let room = (c.in_ok-with_capacity.ensures {u = tt}).capacity in
    kept_zeros c.args.variables (vec_capacity c.in_ok-with_capacity.field-0) (2 * c.args.variables + 2) c.in_ok-vec.field-0.items
    c.requires (made (λ y e. e)) (omega arith) (omega arith)
