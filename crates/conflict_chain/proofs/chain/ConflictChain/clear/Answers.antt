use Rattle.std.proofs.Common.{◌≡◌, refl, replicate, arith}
use Rattle.std.specs.Vec.{vec_len, vec_capacity}
use Rattle.conflict_chain.specs.Kept.{is_running, is_present}
use Rattle.conflict_chain.proofs.MarkLemmas.{none_marked, kept_zeros}
use Rattle.conflict_chain.proofs.chain.ConflictChain.clear.Goals as goal

-- zeros for all literals are right marks
pub invariant_of-self : goal.invariant_of-self
invariant_of-self c =
    let zeros : c.fill.new.self.items ≡ replicate (vec_len c.self.inside.marks) 0 = c.fill.ensures.items (λ y e. e) in
    kept_zeros c.self.inside.variables (vec_capacity c.clear.new.self) (vec_len c.self.inside.marks) c.fill.new.self.items
    c.self.invariant.few zeros (let size = c.self.invariant.size in omega arith) (let room = c.self.invariant.room_for_all in let same = c.clear.ensures.capacity in omega arith)

-- and mark nothing
pub returns-clause-lits : goal.returns-clause-lits
returns-clause-lits c = none_marked is_running c.fill.new.self.items (vec_len c.self.inside.marks) refl (c.fill.ensures.items (λ y e. e))

pub returns-clause-present : goal.returns-clause-present
returns-clause-present c = none_marked is_present c.fill.new.self.items (vec_len c.self.inside.marks) refl (c.fill.ensures.items (λ y e. e))
