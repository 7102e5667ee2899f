use Rattle.std.proofs.Common.{rules, subst, sym, arith}
use Rattle.leaf_defs.specs.Evaluated.{Evaluated}
use Rattle.leaf_chain.specs.Growing.{IsWithout}
use Rattle.leaf_chain.proofs.PlaceLemmas.{room_for_one, places_more}
use Rattle.leaf_chain.proofs.evaluation.Evaluation.imply.Goals as goal

pub push_reserved-requires : goal.push_reserved-requires
push_reserved-requires c =
    let without = subst (λ (e : Evaluated). IsWithout e c.args.variable) (sym c.self.view_is) c.requires in
    let room = room_for_one _ _ _ c.args.variable c.self.invariant without in
    omega (arith, c.self.invariant.order_room_is)

pub push_reserved-requires-2 : goal.push_reserved-requires-2
push_reserved-requires-2 c =
    let without = subst (λ (e : Evaluated). IsWithout e c.args.variable) (sym c.self.view_is) c.requires in
    let room = room_for_one _ _ _ c.args.variable c.self.invariant without in
    omega (arith, c.self.invariant.reason_room_is, c.self.invariant.as_many)

pub invariant_of-self : goal.invariant_of-self
invariant_of-self c =
    let without = subst (λ (e : Evaluated). IsWithout e c.args.variable) (sym c.self.view_is) c.requires in
    let first = c.self.invariant.chosen_first in
    search (rules, places_more _ _ _ c.args.variable c.self.inside.chosen c.args.reason c.args.value c.self.invariant without (omega arith))
