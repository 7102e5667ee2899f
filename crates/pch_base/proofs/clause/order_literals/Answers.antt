use Rattle.std.proofs.Common.{◌≡◌, sym, subst}
use Rattle.std.specs.List.{dedup}
use Rattle.std.proofs.lemmas.List.Sorted.{IsNonDecreasingBy-from_sort}
use Rattle.std.proofs.lemmas.List.Filters.{dedup_is}
use Rattle.clause_defs.specs.Literals.{code}
use Rattle.clause_defs.specs.Clauses.{Lits, SameSet, IsOrdered}
use Rattle.pch_base.proofs.SetLemmas.{same_code, IsOrdered-dedup, SameSet-dedup, SameSet-permutation, SameSet-trans}
use Rattle.pch_base.proofs.clause.order_literals.Goals as goal

-- sorted literals without repeated ones are in their order
pub returns-clause-ordered : goal.returns-clause-ordered
returns-clause-ordered c =
    let sorted = c.sort_unstable.new.self.items in
    let e : c.dedup.new.self.items ≡ dedup same_code sorted = dedup_is same_code sorted c.dedup.new.self.items c.dedup.ensures.filtered in
    subst IsOrdered (sym e) (IsOrdered-dedup sorted (IsNonDecreasingBy-from_sort code sorted c.sort_unstable.ensures.sorted))

-- sorting and leaving out repeated ones keeps the set
pub returns-clause-same : goal.returns-clause-same
returns-clause-same c =
    let sorted = c.sort_unstable.new.self.items in
    let given = c.args.lits.now.items in
    let e : c.dedup.new.self.items ≡ dedup same_code sorted = dedup_is same_code sorted c.dedup.new.self.items c.dedup.ensures.filtered in
    subst (λ (d : Lits). SameSet d given) (sym e)
    (SameSet-trans (dedup same_code sorted) sorted given (SameSet-dedup sorted) (SameSet-permutation given sorted c.sort_unstable.ensures.permutation))
