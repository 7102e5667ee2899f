use Rattle.std.proofs.Common.{ap, subst}
use Rattle.clause_defs.specs.Clauses.{IsOrdered}
use Rattle.chain_check.proofs.MarkLemmas.{IsOrdered-literals_where}
use Rattle.conflict_chain.specs.Conflicts.{Chained}
use Rattle.conflict_chain.specs.Kept.{is_present}
use Rattle.conflict_chain.proofs.chain.ConflictChain.present.Goals as goal

-- marks are in the order of the literals' codes
pub returns-clause-ordered : goal.returns-clause-ordered
returns-clause-ordered c =
    subst IsOrdered (ap (λ (v : Chained). v.present) c.self.view_is) (IsOrdered-literals_where is_present 0 c.self.inside.marks.items)
