use Rattle.std.proofs.Common.{arith}
use Rattle.log_defs.specs.Logs.{clause_of_log}
use Rattle.trail_defs.specs.Assignments.{IsAt}
use Rattle.conflict_chain.proofs.StepLemmas.{not_false, clashes_once, still_false}
use Rattle.conflict_chain.proofs.chain.ConflictChain.resolve_at.Goals as goal

-- the literal's negation alone clashes
pub resolve-requires-clause-once : goal.resolve-requires-clause-once
resolve-requires-clause-once c =
    let l = c.index-trail-i.result in
    let at : IsAt c.args.trail.now c.args.i l = record { within = c.requires.place; read = c.index-trail-i.is } in
    clashes_once c.args.trail.now c.args.i l c.args.self.now.lits (clause_of_log c.args.log.now c.args.index) c.requires.apart at
    (c.requires.reason l at) c.requires.conflict.all_false (c.requires.there l at)

pub resolve-requires-clause-fresh : goal.resolve-requires-clause-fresh
resolve-requires-clause-fresh c =
    let l = c.index-trail-i.result in
    let at : IsAt c.args.trail.now c.args.i l = record { within = c.requires.place; read = c.index-trail-i.is } in
    not_false c.args.trail.now c.args.i l c.args.self.now.lits (clause_of_log c.args.log.now c.args.index) c.requires.apart at
    (c.requires.reason l at) c.requires.conflict.all_false

-- what is left is false
pub returns-clause-conflict : goal.returns-clause-conflict
returns-clause-conflict c =
    let l = c.index-trail-i.result in
    let at : IsAt c.args.trail.now c.args.i l = record { within = c.requires.place; read = c.index-trail-i.is } in
    record {
      chain = c.resolve.ensures.chain;
      all_false =
          still_false c.args.trail.now c.args.i l c.args.self.now.lits (clause_of_log c.args.log.now c.args.index) c.requires.apart at
          (c.requires.reason l at) c.requires.conflict.all_false c.resolve.new.self.lits c.resolve.ensures.lits;
      few = let few = c.requires.conflict.few in let more = c.resolve.ensures.more in omega arith;
    }
