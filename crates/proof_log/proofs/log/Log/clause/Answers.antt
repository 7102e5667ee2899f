use Rattle.std.proofs.Common.{◌≡◌, ◌-◌, subst, sym, arith}
use Rattle.log_defs.specs.Logs.{LogValue, IsIndexOf, clause_of_log}
use Rattle.sat_values.proofs.ClauseLemmas.{Has-slice_get}
use Rattle.proof_log.proofs.KeptLemmas.{index_within, clause_there}
use Rattle.proof_log.proofs.log.Log.clause.Goals as goal

pub clause-requires-2 : goal.clause-requires-2
clause-requires-2 c =
    let within =
    index_within _ _ _ _ _ c.self.invariant c.args.index (subst (λ (l : LogValue). IsIndexOf l c.args.index) (sym c.self.view_is) c.requires) in
    let originals = c.len-originals.ensures.len in
    let behind = c.if-index-originals.false in omega arith

pub returns-clause-lits : goal.returns-clause-lits
returns-clause-lits c =
    let originals = c.len-originals.ensures.len in
    let behind = c.if-index-originals.false in
    subst (λ (l : LogValue). c.clause-2.result.now ≡ clause_of_log l c.args.index) c.self.view_is
    (sym (clause_there _ _ _ _ _ c.self.invariant c.clause-2.result.now (c.args.index - c.len-originals.result - 1) c.args.index c.clause-2.ensures (omega arith)))

pub returns-clause-clause : goal.returns-clause-clause
returns-clause-clause c =
    c.self.invariant.log.clauses_are c.clause-2.result.now
    (Has-slice_get c.self.inside.clauses.clauses (c.args.index - c.len-originals.result - 1) c.clause-2.result.now c.clause-2.ensures)
