use Rattle.std.proofs.Common.{◌+◌, sym, subst, arith}
use Rattle.cdcl_log.specs.Steps.{IsBest}
use Rattle.cdcl_log.proofs.DescentLemmas.{best_kept, best_found}
use Rattle.cdcl_log.proofs.descent.choose.Goals as goal
use Rattle.cdcl_log.proofs.descent.choose.Goals.{in-Some, in-None}

-- one variable more was looked at
pub loop-v-preserved : goal.loop-v-preserved
loop-v-preserved c =
    let n = c.args.variables in
    let t = c.args.trail.now.lits in
    let v = c.loop-v.v in
    let low = c.loop-v.auto.v in
    let test = c.loop-v-test.true in
    elim c.match-value.branch [
      | in-Some w ↦
          subst (IsBest n t (v + 1)) (sym w.best-is)
          (best_kept n t v c.loop-v.best w.in-Some.field-0 c.loop-v.invariant w.in-Some.ensures.some)
      | in-None w ↦
          subst (IsBest n t (v + 1)) (sym w.best-is)
          (best_found n t v c.loop-v.best w.better.result c.loop-v.invariant (omega arith) (omega arith) w.in-None.ensures.none w.better.ensures)
    ]
