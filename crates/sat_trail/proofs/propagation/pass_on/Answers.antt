use Rattle.std.proofs.Common.{sym, ap, ◌∙◌, subst, arith}
use Rattle.clause_defs.specs.Literals.{Literal, negation}
use Rattle.clause_defs.specs.Clauses.{Has}
use Rattle.sat_trail.proofs.PlaceLemmas.{at_has}
use Rattle.sat_trail.proofs.StageLemmas.{negation_negation}
use Rattle.sat_trail.proofs.NextLemmas.{keeps_then}
use Rattle.sat_trail.proofs.PassLemmas.{pass_next, keeps_length, passing_kept}
use Rattle.sat_trail.proofs.propagation.pass_on.Goals as goal

pub spread-requires-clause-is_false : goal.spread-requires-clause-is_false
spread-requires-clause-is_false c =
    subst (Has c.loop-done.values.assignment.lits) (sym (ap negation c.negated.ensures ∙ negation_negation c.get-l.result))
    (at_has c.loop-done.values.assignment.lits c.loop-done.done c.get-l.result c.get-l.ensures.at)

pub spread-requires-clause-within : goal.spread-requires-clause-within
spread-requires-clause-within c =
    let there = at_has c.loop-done.values.assignment.lits c.loop-done.done c.get-l.result c.get-l.ensures.at in
    let within = (c.len.ensures.known.literals c.get-l.result there).1 in
    let same = ap (λ (l : Literal). l.variable) c.negated.ensures in
    omega arith

pub spread-requires-clause-resting : goal.spread-requires-clause-resting
spread-requires-clause-resting c = c.loop-done.invariant.passing.resting

pub spread-requires-clause-marks : goal.spread-requires-clause-marks
spread-requires-clause-marks c = c.loop-done.invariant.passing.marks

-- after a conflict the same literals count as passed on
pub returns-in-Some-clause-passing : goal.returns-in-Some-clause-passing
returns-in-Some-clause-passing c =
    passing_kept c.loop-done.invariant.passing c.in-Some.ensures.resting c.in-Some.ensures.marks c.in-Some.ensures.keeps

pub returns-in-Some-clause-keeps : goal.returns-in-Some-clause-keeps
returns-in-Some-clause-keeps c = keeps_then c.loop-done.invariant.variables c.loop-done.invariant.keeps c.in-Some.ensures.keeps

pub overflow_add-done : goal.overflow_add-done
overflow_add-done c = let small = c.len.ensures.small in let len = c.len.ensures.len in omega arith

pub loop-done-preserved : goal.loop-done-preserved
loop-done-preserved c = record {
  passing = record {
    resting = c.in-None.ensures.resting;
    marks = c.in-None.ensures.marks;
    watched = pass_next c.in-None.ensures.keeps c.spread.new.watches.links.lists c.loop-done.done c.get-l.result c.negated.result c.get-l.ensures.at c.negated.ensures
        c.in-None.ensures.resting.listed c.in-None.ensures.answered c.loop-done.invariant.passing.watched;
    passed = let a = keeps_length c.in-None.ensures.keeps in let b = c.get-l.ensures.at.within in omega arith;
  };
  variables = c.in-None.ensures.variables ∙ c.loop-done.invariant.variables;
  keeps = keeps_then c.loop-done.invariant.variables c.loop-done.invariant.keeps c.in-None.ensures.keeps;
}
