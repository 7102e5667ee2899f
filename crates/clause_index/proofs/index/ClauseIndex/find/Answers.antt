use Rattle.std.proofs.Common.{ap, ◌∙◌, slice_get, refl}
use Rattle.clause_index.specs.Index.{Indexed}
use Rattle.clause_index.proofs.IndexLemmas.{none_then, not_there}
use Rattle.clause_index.proofs.index.ClauseIndex.find.Goals as goal

-- a clause that is neither in a slot nor in a run isn't there
pub returns-clause-none : goal.returns-clause-none
returns-clause-none c = none_then c.find-2.result _ _
    (λ no_run k here. not_there c.self.inside.clauses.lists _ _ _ _ _ _ _ _ c.args.lits.now c.self.invariant.index refl c.in_default.ensures.none no_run k
    (ap (λ (x : Indexed). slice_get x.clauses k) c.self.view_is ∙ here))
    c.find-2.ensures.none
