use Rattle.std.proofs.Common.{◌∙◌, arith}
use Rattle.chain_check.proofs.ClauseLists.{Has-get}
use Rattle.conflict_chain.specs.Kept.{is_running, is_present}
use Rattle.conflict_chain.proofs.StepLemmas.{split_set, gathered_more}
use Rattle.conflict_chain.proofs.chain.ConflictChain.gather.Goals as goal

-- each literal of the clause is over the variables
pub mark_of-requires : goal.mark_of-requires
mark_of-requires c =
    let there = Has-get c.args.clause.now c.loop-l.l-index c.l-item.result c.loop-l-test.true c.l-item.is in
    let within = c.requires.within c.l-item.result there in
    let levels = c.requires.levels in omega arith

pub set-requires : goal.set-requires
set-requires c =
    let there = Has-get c.args.clause.now c.loop-l.l-index c.l-item.result c.loop-l-test.true c.l-item.is in
    let within = c.requires.within c.l-item.result there in
    let same = c.loop-l.invariant.variables in omega arith

-- one more literal
pub loop-l-preserved : goal.loop-l-preserved
loop-l-preserved c = record {
  variables = c.set.ensures.variables ∙ c.loop-l.invariant.variables;
  antecedents = c.set.ensures.antecedents ∙ c.loop-l.invariant.antecedents;
  split =
      split_set c.args.levels.now c.args.level c.loop-l.self c.set.new.self c.l-item.result (is_running c.mark_of.result) (is_present c.mark_of.result)
      c.loop-l.invariant.split (λ h. c.mark_of.ensures.running) (λ h. c.mark_of.ensures.present) c.set.ensures.lits c.set.ensures.present;
  lits =
      gathered_more c.args.self.now.lits c.loop-l.self.lits c.set.new.self.lits c.args.clause.now c.loop-l.l-index c.l-item.result (is_running c.mark_of.result)
      c.loop-l-test.true c.l-item.is c.mark_of.ensures.running c.loop-l.invariant.lits c.set.ensures.lits;
}
