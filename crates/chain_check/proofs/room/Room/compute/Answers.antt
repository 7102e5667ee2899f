use Rattle.std.proofs.Common.{None, Err, subst}
use Rattle.clause_defs.specs.Traces.{index_at}
use Rattle.clause_defs.specs.Verdicts.{ChainFault}
use Rattle.chain_check.specs.Known.{antecedents_known}
use Rattle.chain_check.proofs.KnownLemmas.{step_fault}
use Rattle.chain_check.proofs.room.Room.compute.Goals as goal

-- a faulty step is the fault of the clause
pub returns-in-Err-clause-fault : goal.returns-in-Err-clause-fault
returns-in-Err-clause-fault c f =
    let t = c.args.t.now in
    let k = c.args.k in
    let room = c.args.self.now in
    let own = c.in-Err.ensures {u = tt} in
    step_fault f t room.limit k room.marks.variables room.computed.clauses own.trace.earlier c.requires.knows.known (own.trace.derived k c.requires.within c.requires.sign) c.in-Err.fault
    (subst (λ cs. ChainFault (index_at t k) None (antecedents_known t cs k) (Err c.in-Err.fault)) c.parts.ensures.clauses own.end)
