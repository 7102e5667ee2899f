use Rattle.std.proofs.Common.{IfOk, subst, arith, take_all}
use Rattle.trail_defs.specs.Trails.{IsOpened}
use Rattle.sat_trail.proofs.trail.Trail.open.Goals as goal

pub returns : goal.returns
returns c = record {
  opened = subst (λ cs. IfOk c.open_front.result (λ t. IsOpened c.args.set.now.variables cs c.args.extra_words c.args.extra_blocks t))
      (take_all c.len.result c.args.set.now.clauses (let a = c.len.ensures.len in omega arith)) c.open_front.ensures.opened;
}
