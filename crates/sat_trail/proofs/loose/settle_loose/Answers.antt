use Rattle.std.proofs.Common.{refl, ◌∙◌, subst}
use Rattle.link_lists.specs.Linked.{list_at}
use Rattle.sat_trail.specs.Looks.{Keeps}
use Rattle.sat_trail.proofs.NextLemmas.{conflicts_more, keeps_then, keeps_has, none_on}
use Rattle.sat_trail.proofs.LooseLemmas.{begin_settling, begin_settled, begin_keeps, end_loose, end_resting}
use Rattle.sat_trail.proofs.loose.settle_loose.Goals as goal

-- at first all loose clauses are to be looked at
pub loop-conflict-init : goal.loop-conflict-init
loop-conflict-init c = record {
  settling = begin_settling c.args.region.now.held c.args.values.now.assignment.variables c.args.watches.now.watch.items c.args.watches.now.links c.turn.new.self c.requires.resting c.turn.ensures.size c.turn.ensures.lists;
  marks = c.requires.marks;
  variables = refl;
  keeps = begin_keeps c.args.region.now.held c.args.values.now.assignment.variables c.args.watches.now.watch.items c.args.watches.now.links c.turn.new.self c.requires.resting c.turn.ensures.size c.turn.ensures.lists
      c.args.level c.args.values.now.assignment.lits c.args.values.now.levels.items c.args.values.now.reasons.items;
  met = tt;
  settled = begin_settled c.args.region.now.held c.args.values.now.assignment.variables c.args.watches.now.watch.items c.args.watches.now.links c.turn.new.self c.requires.resting c.turn.ensures.size c.turn.ensures.lists c.args.values.now.assignment.lits;
}

pub loop-conflict-preserved-in-On : goal.loop-conflict-preserved-in-On
loop-conflict-preserved-in-On c = record {
  settling = c.in-On.ensures.settling;
  marks = c.in-On.ensures.marks;
  variables = c.in-On.ensures.variables ∙ c.loop-conflict.invariant.variables;
  keeps = keeps_then c.loop-conflict.invariant.variables c.loop-conflict.invariant.keeps c.in-On.ensures.keeps;
  met = conflicts_more c.args.region.now.held c.loop-conflict.values.assignment.lits c.settle_next.new.values.assignment.lits c.loop-conflict.conflict
      (keeps_has c.in-On.ensures.keeps) c.loop-conflict.invariant.met;
  settled = none_on c.loop-conflict.conflict c.loop-conflict.invariant.settled c.in-On.ensures.outcome.1;
}

pub loop-conflict-preserved : goal.loop-conflict-preserved
loop-conflict-preserved c = record {
  settling = c.in-Conflict.ensures.settling;
  marks = c.in-Conflict.ensures.marks;
  variables = c.in-Conflict.ensures.variables ∙ c.loop-conflict.invariant.variables;
  keeps = keeps_then c.loop-conflict.invariant.variables c.loop-conflict.invariant.keeps c.in-Conflict.ensures.keeps;
  met = c.in-Conflict.ensures.outcome.1;
  settled = tt;
}

-- none is left
pub returns-in-Done-clause-resting : goal.returns-in-Done-clause-resting
returns-in-Done-clause-resting c =
    end_resting c.args.region.now.held c.settle_next.new.values.assignment.variables c.settle_next.new.watches.watch.items c.settle_next.new.watches.links
    c.in-Done.ensures.settling c.in-Done.ensures.outcome.0

pub returns-in-Done-clause-keeps : goal.returns-in-Done-clause-keeps
returns-in-Done-clause-keeps c =
    subst (λ loose. Keeps c.args.region.now.held c.args.values.now.assignment.variables c.args.level (list_at c.args.watches.now.links.lists 1) loose
    c.args.watches.now.watch.items c.args.values.now.assignment.lits c.args.values.now.levels.items c.args.values.now.reasons.items
    c.settle_next.new.watches.watch.items c.settle_next.new.values.assignment.lits c.settle_next.new.values.levels.items c.settle_next.new.values.reasons.items)
    (end_loose c.settle_next.new.watches.links.lists c.in-Done.ensures.outcome.0)
    (keeps_then c.loop-conflict.invariant.variables c.loop-conflict.invariant.keeps c.in-Done.ensures.keeps)

pub returns-in-Done-clause-conflict : goal.returns-in-Done-clause-conflict
returns-in-Done-clause-conflict c =
    conflicts_more c.args.region.now.held c.loop-conflict.values.assignment.lits c.settle_next.new.values.assignment.lits c.loop-conflict.conflict
    (keeps_has c.in-Done.ensures.keeps) c.loop-conflict.invariant.met

pub returns-in-Done-clause-settled : goal.returns-in-Done-clause-settled
returns-in-Done-clause-settled c = none_on c.loop-conflict.conflict c.loop-conflict.invariant.settled c.in-Done.ensures.outcome.1
