use Rattle.std.proofs.Common.{◌∙◌, subst, arith, take_all}
use Rattle.sat_trail.specs.Watching.{IsWatched}
use Rattle.link_lists.specs.Linked.{list_at}
use Rattle.sat_trail.proofs.NextLemmas.{keeps_then}
use Rattle.sat_trail.proofs.PassLemmas.{passing_kept}
use Rattle.sat_trail.proofs.SettledLemmas.{all_settled}
use Rattle.sat_trail.proofs.propagation.propagate.Goals as goal

pub returns-in-Some-clause-keeps : goal.returns-in-Some-clause-keeps
returns-in-Some-clause-keeps c = keeps_then c.loop-number.invariant.variables c.loop-number.invariant.keeps c.in-Some.ensures.keeps

pub returns-in-Some-settle_loose-clause-keeps : goal.returns-in-Some-settle_loose-clause-keeps
returns-in-Some-settle_loose-clause-keeps c =
    keeps_then (c.in-None.ensures.variables ∙ c.loop-number.invariant.variables)
    (keeps_then c.loop-number.invariant.variables c.loop-number.invariant.keeps c.in-None.ensures.keeps) c.in-Some-settle_loose.ensures.keeps

-- settling loose clauses leaves what was passed on
pub returns-in-Some-settle_loose-clause-passing : goal.returns-in-Some-settle_loose-clause-passing
returns-in-Some-settle_loose-clause-passing c =
    passing_kept c.in-None.ensures.passing c.in-Some-settle_loose.ensures.resting c.in-Some-settle_loose.ensures.marks c.in-Some-settle_loose.ensures.keeps

pub returns-then-done-len-clause-passing : goal.returns-then-done-len-clause-passing
returns-then-done-len-clause-passing c =
    passing_kept c.in-None.ensures.passing c.in-None-settle_loose.ensures.resting c.in-None-settle_loose.ensures.marks c.in-None-settle_loose.ensures.keeps

pub returns-then-done-len-clause-keeps : goal.returns-then-done-len-clause-keeps
returns-then-done-len-clause-keeps c =
    keeps_then (c.in-None.ensures.variables ∙ c.loop-number.invariant.variables)
    (keeps_then c.loop-number.invariant.variables c.loop-number.invariant.keeps c.in-None.ensures.keeps) c.in-None-settle_loose.ensures.keeps

-- all literals were passed on, so each clause is settled
pub returns-then-done-len-clause-settled : goal.returns-then-done-len-clause-settled
returns-then-done-len-clause-settled c =
    let t = c.settle_loose.new.values.assignment.lits in
    let all = c.if-done-len.true in
    let len = c.len.ensures.len in
    let watched = c.in-None-settle_loose.ensures.keeps.watched c.pass_on.new.done c.in-None.ensures.passing.passed c.in-None.ensures.passing.watched in
    all_settled c.args.region.now.held c.settle_loose.new.watches.links.lists c.settle_loose.new.watches.watch.items t
    c.in-None-settle_loose.ensures.resting.watches
    (subst (IsWatched c.args.region.now.held (list_at c.settle_loose.new.watches.links.lists 1) c.settle_loose.new.watches.watch.items t)
    (take_all c.pass_on.new.done t (omega arith)) watched)
    c.in-None-settle_loose.ensures.settled

pub loop-number-preserved : goal.loop-number-preserved
loop-number-preserved c = record {
  variables = c.in-None-settle_loose.ensures.variables ∙ c.in-None.ensures.variables ∙ c.loop-number.invariant.variables;
  passing = passing_kept c.in-None.ensures.passing c.in-None-settle_loose.ensures.resting c.in-None-settle_loose.ensures.marks c.in-None-settle_loose.ensures.keeps;
  keeps = keeps_then (c.in-None.ensures.variables ∙ c.loop-number.invariant.variables)
      (keeps_then c.loop-number.invariant.variables c.loop-number.invariant.keeps c.in-None.ensures.keeps) c.in-None-settle_loose.ensures.keeps;
}
