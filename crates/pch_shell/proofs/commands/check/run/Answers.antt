use Rattle.std.proofs.Common.{rules}
use Rattle.sat_values.specs.CnfFormula.{formula_of}
use Rattle.cnf_text_laws.proofs.OverVariables.{formula_within}
use Rattle.pch_shell.proofs.CheckLemmas.{bad_cnf_due, bad_trace_due, verified_due, refused_due}
use Rattle.pch_shell.proofs.commands.check.run.Goals as goal

-- a formula with a fault is bad input
pub returns-in-Err : goal.returns-in-Err
returns-in-Err c =
    bad_cnf_due c.bad_cnf.result _ _ _ _ c.in-Err.error (rw c.deref.ensures.value at c.in-Err.ensures.exact)
    c.bad_cnf.ensures.ending c.bad_cnf.ensures.fault

-- so is a trace with one, where the formula has none
pub returns-in-Err-read_compact : goal.returns-in-Err-read_compact
returns-in-Err-read_compact c =
    bad_trace_due c.bad_trace.result _ _ _ _ (formula_of c.in-Ok.formula) c.in-Err-read_compact.error
    (rw c.deref.ensures.value at c.in-Ok.ensures.exact) (rw c.deref-2.ensures.value at c.in-Err-read_compact.ensures.exact)
    c.bad_trace.ensures.ending c.bad_trace.ensures.fault

-- the clauses of the formula are over its variables
pub from_clauses-requires-clause-within : goal.from_clauses-requires-clause-within
from_clauses-requires-clause-within c =
    (formula_within c.deref.result.now (formula_of c.in-Ok.formula) c.in-Ok.ensures.exact).1

-- a trace that refutes shows that nothing satisfies the formula
pub returns-in-Refutes : goal.returns-in-Refutes
returns-in-Refutes c =
    verified_due _ _ _ _ (formula_of c.in-Ok.formula) c.in_ok-originals.originals
    c.in-Ok-read_compact.steps c.in_ok-verdict.verdict c.done.result c.in_ok-originals.ensures c.in-Refutes.is
    (rw c.deref.ensures.value at c.in-Ok.ensures.exact) (rw c.deref-2.ensures.value at c.in-Ok-read_compact.ensures.exact)
    c.in_ok-verdict.ensures.verdict c.in_ok-verdict.ensures.sound (search rules)

-- any other verdict refuses
pub returns : goal.returns
returns c =
    refused_due _ _ _ _ (formula_of c.in-Ok.formula) c.in_ok-originals.originals
    c.in-Ok-read_compact.steps c.in_ok-verdict.verdict c.refused.result c.in_ok-originals.ensures c.in_default.not-Refutes
    (rw c.deref.ensures.value at c.in-Ok.ensures.exact) (rw c.deref-2.ensures.value at c.in-Ok-read_compact.ensures.exact)
    c.in_ok-verdict.ensures.verdict (search rules)
