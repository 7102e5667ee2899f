use Rattle.std.proofs.Common.{◌≢◌, ◌+◌, ◌≤◌, get_or, take, ap, sym, ◌∙◌, subst, arith}
use Rattle.clause_defs.specs.Literals.{Literal}
use Rattle.clause_defs.specs.Clauses.{Has}
use Rattle.chain_check.proofs.ClauseLists.{Has-get}
use Rattle.conflict_analysis.specs.Analyses.{level_in}
use Rattle.conflict_analysis.proofs.EndLemmas.{most_more, reached_more, reached_new}
use Rattle.conflict_analysis.proofs.analysis.second_level.Goals as goal

-- each literal has a level
pub bounds-levels-variable : goal.bounds-levels-variable
bounds-levels-variable c =
    let there = Has-get c.args.lits.now c.loop-l.l-index c.l-item.result c.loop-l-test.true c.l-item.is in
    let levels = c.requires.levels c.l-item.result there in
    let is = c.variable.ensures.variable in omega arith

-- a literal of the present level
pub loop-l-preserved-then-level-present : goal.loop-l-preserved-then-level-present
loop-l-preserved-then-level-present c = record {
  most =
      most_more c.args.levels.now c.args.present c.args.lits.now c.loop-l.l-index c.l-item.result c.loop-l-test.true c.l-item.is c.loop-l.second c.loop-l.second
      (omega arith) (λ differs. absurd (differs (ap (λ v. get_or c.args.levels.now v 0) (sym c.variable.ensures.variable) ∙ c.if-level-present.true)))
      c.loop-l.invariant.most;
  reached =
      reached_more c.args.levels.now c.args.present c.args.lits.now c.loop-l.l-index c.l-item.result c.loop-l-test.true c.l-item.is c.loop-l.second
      c.loop-l.invariant.reached;
}

-- one of a level that isn't greater
pub loop-l-preserved-then-level-second : goal.loop-l-preserved-then-level-second
loop-l-preserved-then-level-second c = record {
  most =
      most_more c.args.levels.now c.args.present c.args.lits.now c.loop-l.l-index c.l-item.result c.loop-l-test.true c.l-item.is c.loop-l.second c.loop-l.second
      (omega arith)
      (λ differs. subst (λ n. n ≤ c.loop-l.second) (ap (λ v. get_or c.args.levels.now v 0) c.variable.ensures.variable) c.if-level-second.true)
      c.loop-l.invariant.most;
  reached =
      reached_more c.args.levels.now c.args.present c.args.lits.now c.loop-l.l-index c.l-item.result c.loop-l-test.true c.l-item.is c.loop-l.second
      c.loop-l.invariant.reached;
}

-- one of a greater level
pub loop-l-preserved : goal.loop-l-preserved
loop-l-preserved c =
    let same = ap (λ v. get_or c.args.levels.now v 0) c.variable.ensures.variable in
    let greater = c.if-level-second.false in
    let most : (x : Literal) → Has (take (c.loop-l.l-index + 1) c.args.lits.now) x → level_in c.args.levels.now x ≢ c.args.present
    → level_in c.args.levels.now x ≤ level_in c.args.levels.now c.l-item.result =
    most_more c.args.levels.now c.args.present c.args.lits.now c.loop-l.l-index c.l-item.result c.loop-l-test.true c.l-item.is c.loop-l.second
    (level_in c.args.levels.now c.l-item.result) (omega arith) (λ differs. omega arith) c.loop-l.invariant.most in
    let reached =
    reached_new c.args.levels.now c.args.present c.args.lits.now c.loop-l.l-index c.l-item.result c.loop-l-test.true c.l-item.is
    (λ e. c.if-level-present.false (same ∙ e)) in
    rw same record { most = most; reached = reached }
