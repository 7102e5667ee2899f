use Rattle.std.proofs.Common.{length, sym, subst, ◌∙◌, ap}
use Rattle.std.proofs.lemmas.Bool.{eqb-false}
use Rattle.clause_defs.specs.Clauses.{WithinVariables}
use Rattle.clause_defs.specs.Traces.{stated_at, lits_at}
use Rattle.chain_check.specs.ByPlace.{parts_of}
use Rattle.chain_check.proofs.KnownLemmas.{step_fault, there, within_stated}
use Rattle.chain_check.proofs.RoomLemmas.{differs_fault}
use Rattle.chain_check.proofs.stated.stated_fault.Goals as goal

-- a faulty step is the fault of the clause
pub returns-in-Err-clause-fault : goal.returns-in-Err-clause-fault
returns-in-Err-clause-fault c w =
    let own = c.in-Err.ensures {u = tt} in
    step_fault c.args.f.now.clauses c.args.t.now w c.args.k c.args.m.now.variables (parts_of c.args.lits.now c.args.spans.now) c.requires.trace.earlier c.requires.known
    (λ none. eqb-false (length c.antecedents.result.now) 0 (sym c.is_empty.ensures ∙ c.if-is_empty.false) (ap length (c.antecedents.ensures.antecedents ∙ none))) c.in-Err.fault own.end

-- the stated literals are over the marks' variables
pub differs-requires-clause-covered : goal.differs-requires-clause-covered
differs-requires-clause-covered c =
    subst (λ v. WithinVariables v (lits_at c.args.t.now c.args.k)) (sym (c.in_default.ensures {u = tt}).variables)
    (within_stated c.args.t.now c.args.m.now.variables (parts_of c.args.lits.now c.args.spans.now) c.args.k c.args.k c.requires.known)

-- the fault is that of a chain that comes to the stated literals or to others
pub returns-clause-fault : goal.returns-clause-fault
returns-clause-fault c w =
    let own = c.in_default.ensures {u = tt} in
    differs_fault c.args.f.now.clauses c.args.t.now c.args.k w c.args.m.now.variables (parts_of c.args.lits.now c.args.spans.now) c.requires.trace.earlier c.requires.known
    (λ none. eqb-false (length c.antecedents.result.now) 0 (sym c.is_empty.ensures ∙ c.if-is_empty.false) (ap length (c.antecedents.ensures.antecedents ∙ none))) c.follow.new.m.running own.clause (there (stated_at c.args.t.now c.args.k) c.requires.stated) c.differs.result c.differs.ensures.same c.differs.ensures.other
