use Rattle.std.proofs.Common.{◌≡◌, ℕ, ◌+◌, List, length, refl, sym, ap, ◌∙◌, subst, arith}
use Rattle.clause_defs.specs.Clauses.{Lits}
use Rattle.log_defs.specs.Logs.{HasDerived}
use Rattle.conflict_lesson.specs.Lessons.{Taught}
use Rattle.conflict_lesson.proofs.SpentLemmas.{spent_of}
use Rattle.conflict_lesson.proofs.lesson.Lesson.derive.Goals as goal

-- a new clause that is over the limit
pub returns-in-None-clause-end : goal.returns-in-None-clause-end
returns-in-None-clause-end c =
    let own = c.args.self.now in
    let lits : c.deref-then-need-limit.result.now ≡ own.lits = c.deref-then-need-limit.ensures.value ∙ ap (λ (t : Taught). t.lits) c.self.view_is in
    let again : c.deref.result.now ≡ own.lits = c.deref.ensures.value ∙ ap (λ (t : Taught). t.lits) c.self.view_is in
    let antecedents : c.antecedents-antecedents.result.now ≡ own.antecedents =
    c.antecedents-antecedents.ensures ∙ ap (λ (t : Taught). t.antecedents) c.self.view_is in
    let long = ap (λ (ls : Lits). length ls) again in
    let many = ap (λ (is : List ℕ). length is) antecedents in
    let len = c.len.ensures in
    let test = c.if-need-limit.true in
    let lesson = c.requires.lesson in
    let need : 3 + c.len.result + length c.antecedents-antecedents.result.now ≡ 3 + length own.lits + length own.antecedents = omega arith in (
      λ index derived. c.in-None.ensures.none index (subst (λ (ls : Lits). HasDerived c.args.log.now ls index) (sym lits) derived),
      spent_of c.args.log.now lesson.0 lesson.1 own.antecedents own.lits lesson.2 c.args.limit c.used-used.result
          (3 + c.len.result + length c.antecedents-antecedents.result.now) c.requires.none_empty c.used-used.ensures.used need (omega arith),
      refl,
    )
