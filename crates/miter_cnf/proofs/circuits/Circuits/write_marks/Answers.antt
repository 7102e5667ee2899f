use Rattle.std.proofs.Common.{[], ◌∷◌, arith}
use Rattle.clause_defs.specs.Literals.{negation}
use Rattle.miter_cnf.proofs.RowLemmas.{Adds-row_literals}
use Rattle.miter_cnf.proofs.circuits.Circuits.write_marks.Goals as goal

-- one mark more adds the clause of what it asks
pub loop-i-preserved : goal.loop-i-preserved
loop-i-preserved c =
    Adds-row_literals c.args.w.now.clauses c.loop-i.w.clauses c.write_mark.new.w.clauses (λ m. negation c.args.hit ∷ m ∷ [])
    c.args.row.now c.args.fan_ins.now c.loop-i.i _ (omega arith) (omega (arith, c.requires.marks)) c.loop-i.invariant
    c.in_ok-write_mark.ensures
