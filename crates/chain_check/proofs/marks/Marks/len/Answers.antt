use Rattle.std.proofs.Common.{ap, subst}
use Rattle.clause_defs.specs.Clauses.{IsOrdered}
use Rattle.chain_check.specs.Marks.{Marked, is_running}
use Rattle.chain_check.proofs.MarkLemmas.{IsOrdered-literals_where}
use Rattle.chain_check.proofs.marks.Marks.len.Goals as goal

-- the literals of the marks are in their order
pub returns-clause-ordered : goal.returns-clause-ordered
returns-clause-ordered c =
    let m = c.self.inside in
    subst IsOrdered (ap (λ (v : Marked). v.running) c.self.view_is) (IsOrdered-literals_where (is_running m.first m.current) 0 m.numbers.items)
