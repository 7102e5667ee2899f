use Rattle.std.proofs.Common.{◌<◌, length, refl, sym, ◌∙◌, subst}
use Rattle.clause_defs.specs.Literals.{negation}
use Rattle.sat_trail.proofs.VisitSteps.{code_listed}
use Rattle.sat_trail.proofs.NextLemmas.{conflicts_more, keeps_then, keeps_has, none_on}
use Rattle.sat_trail.proofs.SpreadLemmas.{spread_one, spread_visiting, spread_answered, spread_keeps, spread_resting}
use Rattle.sat_trail.proofs.spread.spread.Goals as goal

pub turn-requires-clause-from : goal.turn-requires-clause-from
turn-requires-clause-from c =
    subst (λ k. k < length c.args.watches.now.links.lists) (sym c.code.ensures.code)
    (code_listed c.args.values.now.assignment.variables (length c.args.watches.now.links.lists) c.args.x c.requires.within c.requires.resting.sizes.lists)

-- at first all watches are to be visited
pub loop-conflict-init : goal.loop-conflict-init
loop-conflict-init c = record {
  visiting = spread_visiting c.args.region.now.held c.args.values.now.assignment.variables c.args.watches.now.watch.items c.args.values.now.assignment.lits c.args.watches.now.links c.turn.new.self c.args.x c.code.result
      c.requires.resting c.code.ensures.within_limits c.requires.within c.code.ensures.code c.turn.ensures.size c.turn.ensures.lists;
  marks = c.requires.marks;
  variables = refl;
  loose = spread_one c.args.region.now.held c.args.values.now.assignment.variables c.args.watches.now.watch.items c.args.values.now.assignment.lits c.args.watches.now.links c.turn.new.self c.args.x c.code.result
      c.requires.resting c.code.ensures.within_limits c.requires.within c.code.ensures.code c.turn.ensures.size c.turn.ensures.lists;
  is_false = c.requires.is_false;
  keeps = spread_keeps c.args.region.now.held c.args.values.now.assignment.variables c.args.watches.now.watch.items c.args.values.now.assignment.lits c.args.watches.now.links c.turn.new.self c.args.x c.code.result
      c.requires.resting c.code.ensures.within_limits c.requires.within c.code.ensures.code c.turn.ensures.size c.turn.ensures.lists
      c.args.level c.args.values.now.levels.items c.args.values.now.reasons.items;
  met = tt;
  answered = spread_answered c.args.region.now.held c.args.values.now.assignment.variables c.args.watches.now.watch.items c.args.values.now.assignment.lits c.args.watches.now.links c.turn.new.self c.args.x c.code.result
      c.requires.resting c.code.ensures.within_limits c.requires.within c.code.ensures.code c.turn.ensures.size c.turn.ensures.lists;
}

pub returns-in-Done-clause-resting : goal.returns-in-Done-clause-resting
returns-in-Done-clause-resting c =
    spread_resting c.args.region.now.held c.visit_next.new.values.assignment.variables c.visit_next.new.watches.watch.items c.visit_next.new.watches.links c.args.x
    c.in-Done.ensures.visiting c.in-Done.ensures.outcome.1

pub returns-in-Done-clause-keeps : goal.returns-in-Done-clause-keeps
returns-in-Done-clause-keeps c = keeps_then c.loop-conflict.invariant.variables c.loop-conflict.invariant.keeps c.in-Done.ensures.keeps

pub returns-in-Done-clause-conflict : goal.returns-in-Done-clause-conflict
returns-in-Done-clause-conflict c =
    conflicts_more c.args.region.now.held c.loop-conflict.values.assignment.lits c.visit_next.new.values.assignment.lits c.loop-conflict.conflict
    (keeps_has c.in-Done.ensures.keeps) c.loop-conflict.invariant.met

-- one more was visited
pub loop-conflict-preserved-in-On : goal.loop-conflict-preserved-in-On
loop-conflict-preserved-in-On c = record {
  visiting = c.in-On.ensures.visiting;
  marks = c.in-On.ensures.marks;
  variables = c.in-On.ensures.variables ∙ c.loop-conflict.invariant.variables;
  loose = c.in-On.ensures.loose ∙ c.loop-conflict.invariant.loose;
  is_false = keeps_has c.in-On.ensures.keeps (negation c.args.x) c.loop-conflict.invariant.is_false;
  keeps = keeps_then c.loop-conflict.invariant.variables c.loop-conflict.invariant.keeps c.in-On.ensures.keeps;
  met = conflicts_more c.args.region.now.held c.loop-conflict.values.assignment.lits c.visit_next.new.values.assignment.lits c.loop-conflict.conflict
      (keeps_has c.in-On.ensures.keeps) c.loop-conflict.invariant.met;
  answered = none_on c.loop-conflict.conflict c.loop-conflict.invariant.answered c.in-On.ensures.outcome.1;
}

-- a clause in conflict was met
pub loop-conflict-preserved : goal.loop-conflict-preserved
loop-conflict-preserved c = record {
  visiting = c.in-Conflict.ensures.visiting;
  marks = c.in-Conflict.ensures.marks;
  variables = c.in-Conflict.ensures.variables ∙ c.loop-conflict.invariant.variables;
  loose = c.in-Conflict.ensures.loose ∙ c.loop-conflict.invariant.loose;
  is_false = keeps_has c.in-Conflict.ensures.keeps (negation c.args.x) c.loop-conflict.invariant.is_false;
  keeps = keeps_then c.loop-conflict.invariant.variables c.loop-conflict.invariant.keeps c.in-Conflict.ensures.keeps;
  met = c.in-Conflict.ensures.outcome.1;
  answered = tt;
}
