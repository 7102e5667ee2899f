use Rattle.std.proofs.Common.{IfOk, IfErr, subst, sym, arith}
use Rattle.produce.specs.Endings.{Refuted, Unrefuted}
use Rattle.produce.proofs.EndLemmas.{answered_ok, answered_err}
use Rattle.produce.proofs.ShortTrace.{short_grown}
use Rattle.produce.proofs.refuting.refuted_miter.Goals as goal

-- the empty clause is the last one of a log that had none
pub returns-clause-refuted : goal.returns-clause-refuted
returns-clause-refuted c =
    let spec = c.args.spec.now in
    let config = c.args.config.now in
    let before = c.in-Ok.log in
    let after = c.search.new.log in
    let opened = c.in-Ok.ensures in
    let searched = c.in-Ok-search.ensures in
    let at = opened.budget in
    let short = short_grown spec config before after c.inputs-inputs.ensures.net c.geometry-geometry.ensures.known opened.over_miter searched.extends
    c.used-used.ensures.log (omega (arith, c.requires.budget)) in
    subst (λ r. IfOk r (Refuted spec config c.args.budget)) (sym c.answer_of.ensures)
    (answered_ok spec config c.args.budget before after c.in-Ok-search.end opened.over_miter opened.nothing opened.budget searched.extends
    c.used-used.ensures.log short searched.ends)

-- and where the search found none, it says why
pub returns-clause-unrefuted : goal.returns-clause-unrefuted
returns-clause-unrefuted c =
    let spec = c.args.spec.now in
    let config = c.args.config.now in
    let before = c.in-Ok.log in
    let after = c.search.new.log in
    let opened = c.in-Ok.ensures in
    let searched = c.in-Ok-search.ensures in
    let at = opened.budget in
    let short = short_grown spec config before after c.inputs-inputs.ensures.net c.geometry-geometry.ensures.known opened.over_miter searched.extends
    c.used-used.ensures.log (omega (arith, c.requires.budget)) in
    subst (λ r. IfErr r (Unrefuted spec config c.args.budget)) (sym c.answer_of.ensures)
    (answered_err spec config c.args.budget before after c.in-Ok-search.end opened.over_miter opened.nothing opened.budget searched.extends
    c.used-used.ensures.log short searched.ends)
