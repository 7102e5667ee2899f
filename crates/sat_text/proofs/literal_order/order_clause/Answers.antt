use Rattle.std.proofs.Common.{◌≡◌, true, sym, ap, ◌∙◌}
use Rattle.clause_laws.proofs.ClauseOf.{clause_of-ordered}
use Rattle.sat_text.specs.Climbing.{climbs_from}
use Rattle.sat_text.proofs.ClimbingLemmas.{climbing_is_ordered}
use Rattle.sat_text.proofs.literal_order.order_clause.Goals as goal

-- climbing literals are the clause of themselves
pub returns-then-climbs-clause-clause : goal.returns-then-climbs-clause-clause
returns-then-climbs-clause-clause c =
    let up : climbs_from 0 c.args.lits.now.items ≡ true = ap (climbs_from 0) (sym c.deref.ensures.value) ∙ sym c.climbs.ensures ∙ c.if-climbs.true in
    clause_of-ordered c.args.lits.now.items c.args.lits.now.items (climbing_is_ordered 0 c.args.lits.now.items up) (λ l. (λ h. h, λ h. h))

-- climbing literals are in their order
pub returns-then-climbs-clause-ordered : goal.returns-then-climbs-clause-ordered
returns-then-climbs-clause-ordered c =
    let up : climbs_from 0 c.args.lits.now.items ≡ true = ap (climbs_from 0) (sym c.deref.ensures.value) ∙ sym c.climbs.ensures ∙ c.if-climbs.true in
    climbing_is_ordered 0 c.args.lits.now.items up

-- ordered literals of the same set are the clause
pub returns-clause-clause : goal.returns-clause-clause
returns-clause-clause c = clause_of-ordered c.order_literals.new.lits.items c.args.lits.now.items c.order_literals.ensures.ordered c.order_literals.ensures.same
