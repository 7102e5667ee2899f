use Rattle.std.proofs.Common.{[], inl, inr, sym, subst, ◌∙◌, arith}
use Rattle.clause_defs.specs.Clauses.{Has, Lits}
use Rattle.chain_check.proofs.ClauseLists.{Has-take_more, Has-get}
use Rattle.chain_check.proofs.marks.Marks.load.Goals as goal
use Rattle.chain_check.proofs.marks.Marks.load.Goals.{then-add, else-add}

-- each literal of the clause is over the marks' variables
pub add-requires : goal.add-requires
add-requires c =
    let there = Has-get c.args.c.now c.loop-l.l-index c.l-item.result c.loop-l-test.true c.l-item.is in
    let within = c.requires.within c.l-item.result there in
    let same = c.loop-l.invariant.variables in omega arith

-- one more literal is added, or was there
pub loop-l-preserved : goal.loop-l-preserved
loop-l-preserved c = record {
  variables = c.add.ensures.variables ∙ c.loop-l.invariant.variables;
  running = c.add.ensures.running ∙ c.loop-l.invariant.running;
  left = c.add.ensures.left ∙ c.loop-l.invariant.left;
  fresh = λ x. let more = Has-take_more c.args.c.now c.loop-l.l-index c.l-item.result x c.loop-l-test.true c.l-item.is in (
    λ h. elim ((c.add.ensures.fresh x).0 h) [ inl k ↦ more.1 (inl ((c.loop-l.invariant.fresh x).0 k)) | inr k ↦ more.1 (inr (sym k.0)) ],
    λ h. elim (more.0 h) [
      | inl k ↦ (c.add.ensures.fresh x).1 (inl ((c.loop-l.invariant.fresh x).1 k))
      | inr e ↦ (c.add.ensures.fresh x).1 (inr (sym e, λ k. let none : Has [] x = subst (λ (r : Lits). Has r x) c.loop-l.invariant.running k in none))
    ],
  );
  counted = let before = c.loop-l.invariant.counted in elim c.if-add.branch [
    | then-add w ↦ let new = (w.if-add.ensures {u = tt}).new in let is = w.added-is in omega arith
    | else-add w ↦ let there = (w.if-add.ensures {u = tt}).there in let is = w.added-is in omega arith
  ];
  small = let before = c.loop-l.invariant.small in elim c.if-add.branch [
    | then-add w ↦ let is = w.added-is in omega arith
    | else-add w ↦ let is = w.added-is in omega arith
  ];
}
