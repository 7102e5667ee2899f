-- What `check CNF TRACE` finds in the bytes of both files, and what it comes to.
use Rattle.std.specs.Prelude.{◌≡◌, ◌≢◌, ◌⊎◌, ℕ, List, codes}
use Rattle.clause_defs.specs.Clauses.{Unsat}
use Rattle.clause_defs.specs.Formulas.{Formula}
use Rattle.clause_defs.specs.Traces.{Entry}
use Rattle.clause_defs.specs.Verdicts.{VerdictOf, IsRefutedBy}
use Rattle.clause_defs.specs.declared.verdict.TheConstants.{MAX_COMPUTED}
use Rattle.clause_defs.specs.declared.verdict.Verdict.{Verdict}
use Rattle.clause_defs.specs.declared.verdict.Verdict.TheVariants.{Refutes}
use Rattle.sat_text_defs.specs.declared.errors.CnfError.{CnfError}
use Rattle.sat_text_defs.specs.declared.errors.TraceError.{TraceError}
use Rattle.sat_text_defs.specs.CnfText.{CnfText, CnfTextFault}
use Rattle.sat_text_defs.specs.TraceText.{TraceText, TraceTextFault}
use Rattle.pch_lines.specs.Lines.{and_word, ended}
use Rattle.pch_lines.specs.FaultLines.{cnf_line, trace_line}
use Rattle.pch_lines.specs.RefusalLines.{verdict_line}
use Rattle.pch_shell.specs.Outcomes.{Outcome, done, refused, bad_input}

-- the bytes of a CNF and of a trace, with the sign or without it, that refutes its clauses; so nothing satisfies
-- them
pub record Refuted (cnf trace : List ℕ) : Type 0 where
  pub formula : Formula
  pub steps : List Entry
  pub reads_cnf : CnfText cnf formula
  pub reads_trace : TraceText trace 2 steps
  pub refutes : IsRefutedBy formula.clauses steps
  pub unsat : Unsat formula.variables formula.clauses

-- the bytes of a CNF and of a trace that shows something else of its clauses
pub record NotRefuted (cnf trace : List ℕ) (v : Verdict) : Type 0 where
  pub formula : Formula
  pub steps : List Entry
  pub reads_cnf : CnfText cnf formula
  pub reads_trace : TraceText trace 2 steps
  pub shows : VerdictOf formula.clauses steps MAX_COMPUTED v
  pub other : v ≢ Refutes

-- the trace has this fault; it is looked at only where the CNF reads
pub record TraceIsFaulty (cnf trace : List ℕ) (fault : TraceError) : Type 0 where
  pub formula : Formula
  pub reads_cnf : CnfText cnf formula
  pub faulty : TraceTextFault trace 2 fault

-- what `check` of the bytes of a CNF and of a trace comes to
abbrev pub CheckDue : (cnf_name trace_name cnf trace : List ℕ) → Outcome → Type 0
CheckDue cnf_name trace_name cnf trace o =
    (Refuted cnf trace × (o ≡ done (ended (codes "verified"))))
    ⊎ (((v : Verdict) × NotRefuted cnf trace v × (o ≡ refused (verdict_line v)))
    ⊎ (((fault : CnfError) × CnfTextFault cnf fault × (o ≡ bad_input (cnf_line (and_word (codes "cnf") cnf_name) fault)))
    ⊎ ((fault : TraceError) × TraceIsFaulty cnf trace fault
    × (o ≡ bad_input (trace_line (and_word (codes "trace") trace_name) fault)))))
