use Rattle.std.proofs.Common.{sym, subst, arith}
use Rattle.sat_values.specs.ClauseLists.{AreClauses}
use Rattle.sat_values.proofs.ClauseLemmas.{AreClauses-push}
use Rattle.sat_values.proofs.clauses.Clauses.push_lits.Goals as goal

-- the ordered literals are one more clause
pub invariant_of-self-2 : goal.invariant_of-self-2
invariant_of-self-2 c =
    let few = c.if-len-ge-MAX_CLAUSES.false in
    let counted = c.len.ensures in
    subst AreClauses (sym c.in_ok-push.ensures.ok)
    (AreClauses-push c.self.inside.lists.lists c.args.lits.now c.self.invariant c.requires c.literals_are_within_limits.ensures (omega arith))
