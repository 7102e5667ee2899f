-- What `check` comes to for the bytes of both files.
use Rattle.std.proofs.Common.{◌≡◌, ◌≢◌, ◌⊎◌, inl, inr, ℕ, List, Result, Ok, Err, IfOk, subst, codes}
use Rattle.clause_defs.specs.Clauses.{Unsat}
use Rattle.clause_defs.specs.Formulas.{Formula}
use Rattle.clause_defs.specs.Traces.{Entry}
use Rattle.clause_defs.specs.Verdicts.{VerdictOf}
use Rattle.clause_defs.specs.declared.verdict.TheConstants.{MAX_COMPUTED}
use Rattle.clause_defs.specs.declared.verdict.Verdict.{Verdict}
use Rattle.clause_defs.specs.declared.verdict.Verdict.TheVariants.{Refutes}
use Rattle.sat_text_defs.specs.declared.errors.CnfError.{CnfError}
use Rattle.sat_text_defs.specs.declared.errors.CnfError.TheVariants as cnf_errors
use Rattle.sat_text_defs.specs.declared.errors.TraceError.{TraceError}
use Rattle.sat_text_defs.specs.declared.errors.TraceError.TheVariants as trace_errors
use Rattle.sat_text_defs.specs.CnfReading.{cnf_in}
use Rattle.sat_text_defs.specs.TraceReading.{trace_in}
use Rattle.cnf_text_laws.proofs.CnfsRead.{text_of_cnf_in}
use Rattle.cnf_text_laws.proofs.CnfFaults.{fault_of_cnf_in}
use Rattle.trace_text_laws.proofs.TracesRead.{trace_in-text, trace_in-fault}
use Rattle.pch_lines.specs.Lines.{and_word, ended}
use Rattle.pch_lines.specs.FaultLines.{cnf_line, trace_line}
use Rattle.pch_lines.specs.RefusalLines.{verdict_line}
use Rattle.pch_shell.specs.Outcomes.{Outcome, done, refused, bad_input}
use Rattle.pch_shell.specs.Check.{CheckDue}

-- the CNF has a fault
pub bad_cnf_due : {N : Type 0} (r : Result Outcome N) (cn tn cnf trace : List ℕ) (error : CnfError)
    → (error ≡ cnf_errors.NoMemory) ⊎ (cnf_in cnf ≡ Err error)
    → IfOk r (λ o. o ≡ bad_input (cnf_line (and_word (codes "cnf") cn) error))
    → IfOk r (λ o. error ≢ cnf_errors.NoMemory)
    → IfOk r (CheckDue cn tn cnf trace)
bad_cnf_due (Ok o) cn tn cnf trace error (inl none) is real = absurd (real none)
bad_cnf_due (Ok o) cn tn cnf trace error (inr fails) is real = inr (inr (inl (error, fault_of_cnf_in cnf error fails, is)))
bad_cnf_due (Err n) cn tn cnf trace error fails is real = is

-- the trace has a fault
pub bad_trace_due : {N : Type 0} (r : Result Outcome N) (cn tn cnf trace : List ℕ) (f : Formula) (error : TraceError)
    → cnf_in cnf ≡ Ok f
    → (error ≡ trace_errors.NoMemory) ⊎ (trace_in 2 trace ≡ Err error)
    → IfOk r (λ o. o ≡ bad_input (trace_line (and_word (codes "trace") tn) error))
    → IfOk r (λ o. error ≢ trace_errors.NoMemory)
    → IfOk r (CheckDue cn tn cnf trace)
bad_trace_due (Ok o) cn tn cnf trace f error reads (inl none) is real = absurd (real none)
bad_trace_due (Ok o) cn tn cnf trace f error reads (inr fails) is real =
    inr (inr (inr (
      error,
      record {
        formula = f;
        reads_cnf = text_of_cnf_in cnf f reads;
        faulty = trace_in-fault trace 2 error fails;
      },
      is,
    )))
bad_trace_due (Err n) cn tn cnf trace f error reads fails is real = is

-- the trace refutes the clauses
pub verified_due : (cn tn cnf trace : List ℕ) (f set : Formula) (t : List Entry) (v : Verdict) (o : Outcome)
    → set ≡ f → v ≡ Refutes → cnf_in cnf ≡ Ok f → trace_in 2 trace ≡ Ok t
    → VerdictOf set.clauses t MAX_COMPUTED v → (v ≡ Refutes → Unsat set.variables set.clauses)
    → o ≡ done (ended (codes "verified"))
    → CheckDue cn tn cnf trace o
verified_due cn tn cnf trace f set t v o same yes_is reads steps shows sound is =
    let shown : VerdictOf set.clauses t MAX_COMPUTED Refutes = subst (VerdictOf set.clauses t MAX_COMPUTED) yes_is shows in
    inl (
      record {
        formula = f;
        steps = t;
        reads_cnf = text_of_cnf_in cnf f reads;
        reads_trace = trace_in-text trace 2 t steps;
        refutes = subst (λ (g : Formula). VerdictOf g.clauses t MAX_COMPUTED Refutes) same shown;
        unsat = subst (λ (g : Formula). Unsat g.variables g.clauses) same (sound yes_is);
      },
      is,
    )

-- the trace shows something else
pub refused_due : (cn tn cnf trace : List ℕ) (f set : Formula) (t : List Entry) (v : Verdict) (o : Outcome)
    → set ≡ f → v ≢ Refutes → cnf_in cnf ≡ Ok f → trace_in 2 trace ≡ Ok t
    → VerdictOf set.clauses t MAX_COMPUTED v
    → o ≡ refused (verdict_line v)
    → CheckDue cn tn cnf trace o
refused_due cn tn cnf trace f set t v o same other reads steps shows is =
    inr (inl (
      v,
      record {
        formula = f;
        steps = t;
        reads_cnf = text_of_cnf_in cnf f reads;
        reads_trace = trace_in-text trace 2 t steps;
        shows = subst (λ (g : Formula). VerdictOf g.clauses t MAX_COMPUTED v) same shows;
        other = other;
      },
      is,
    ))
