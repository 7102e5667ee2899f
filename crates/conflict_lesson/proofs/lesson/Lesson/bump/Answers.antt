use Rattle.std.proofs.Common.{◌≡◌, get_or, ap, ◌∙◌, subst, arith}
use Rattle.clause_defs.specs.Clauses.{Lits, Has}
use Rattle.log_laws.proofs.TraceOfLemmas.{Has-get_or}
use Rattle.conflict_lesson.specs.Lessons.{Taught}
use Rattle.conflict_lesson.proofs.lesson.Lesson.bump.Goals as goal

-- each antecedent is a clause of the log
pub clause-requires : goal.clause-requires
clause-requires c =
    let items = c.antecedents-index-items.result.now in
    let same : items ≡ c.args.self.now.antecedents = c.antecedents-index-items.ensures ∙ ap (λ (t : Taught). t.antecedents) c.self.view_is in
    let there = Has-get_or items c.loop-index.index-index 0 c.loop-index-test.true in
    c.requires.indices (get_or items c.loop-index.index-index 0) (subst (λ is. Has is (get_or items c.loop-index.index-index 0)) same there)

-- over the variables
pub bump_all-requires : goal.bump_all-requires
bump_all-requires c l h =
    let items = c.antecedents-index-items.result.now in
    let same : items ≡ c.args.self.now.antecedents = c.antecedents-index-items.ensures ∙ ap (λ (t : Taught). t.antecedents) c.self.view_is in
    let there = Has-get_or items c.loop-index.index-index 0 c.loop-index-test.true in
    let within =
    c.requires.within (get_or items c.loop-index.index-index 0) (subst (λ is. Has is (get_or items c.loop-index.index-index 0)) same there) l
    (subst (λ (d : Lits). Has d l) c.clause.ensures.lits h) in
    let order = c.loop-index.invariant in
    let places = c.requires.order in omega arith
