use Rattle.std.proofs.Common.{◌∙◌, arith}
use Rattle.miter_cnf.proofs.RowLemmas.{added-row_literals}
use Rattle.miter_cnf.proofs.circuits.Circuits.add_marks.Goals as goal

-- one mark more adds the negation of what it asks
pub loop-i-preserved : goal.loop-i-preserved
loop-i-preserved c = record {
  clauses = (c.in_ok-add_mark.ensures.clauses) ∙ c.loop-i.invariant.clauses;
  literals = added-row_literals c.args.w.now.literals.items c.loop-i.w.literals.items c.add_mark.new.w.literals.items c.args.row.now c.args.fan_ins.now c.loop-i.i _
      (omega arith) (omega (arith, c.requires.marks)) c.loop-i.invariant.literals (c.in_ok-add_mark.ensures.literals);
}
