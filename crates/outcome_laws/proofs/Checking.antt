-- `check` of the bytes of its files comes to one outcome.
use Rattle.std.proofs.Common.{◌≡◌, inl, inr, ℕ, List, codes, sym, ap, subst, ◌∙◌}
use Rattle.clause_defs.specs.Formulas.{Formula}
use Rattle.clause_defs.specs.Traces.{Entry}
use Rattle.clause_defs.specs.Verdicts.{VerdictOf}
use Rattle.clause_defs.specs.declared.verdict.TheConstants.{MAX_COMPUTED}
use Rattle.clause_defs.specs.declared.verdict.Verdict.{Verdict}
use Rattle.clause_defs.specs.declared.verdict.Verdict.TheVariants.{Refutes}
use Rattle.clause_laws.proofs.Uniqueness.{verdict_unique}
use Rattle.sat_text_defs.specs.CnfText.{CnfText}
use Rattle.sat_text_defs.specs.TraceText.{TraceText}
use Rattle.cnf_text_laws.proofs.OneReading.{one_cnf, one_fault, not_both}
use Rattle.trace_text_laws.proofs.OneReading.{only_trace, only_fault, never_both}
use Rattle.pch_lines.specs.Lines.{and_word}
use Rattle.pch_lines.specs.FaultLines.{cnf_line, trace_line}
use Rattle.pch_lines.specs.RefusalLines.{verdict_line}
use Rattle.pch_shell.specs.Outcomes.{Outcome, refused, bad_input}
use Rattle.pch_shell.specs.Check.{CheckDue}

-- the bytes of a CNF and of a trace show one verdict
one_verdict : (cnf trace : List ℕ) (f g : Formula) (t u : List Entry) (v w : Verdict) → CnfText cnf f → CnfText cnf g
    → TraceText trace 2 t → TraceText trace 2 u → VerdictOf f.clauses t MAX_COMPUTED v → VerdictOf g.clauses u MAX_COMPUTED w → v ≡ w
one_verdict cnf trace f g t u v w cnf_f cnf_g trace_t trace_u shows other =
    let P : Formula → Type 0 = λ (x : Formula). VerdictOf x.clauses t MAX_COMPUTED v in
    let Q : List Entry → Type 0 = λ x. VerdictOf g.clauses x MAX_COMPUTED v in
    verdict_unique g.clauses u MAX_COMPUTED v w
    (subst Q (only_trace trace 2 t u trace_t trace_u) (subst P (one_cnf cnf f g cnf_f cnf_g) shows)) other

-- `check` of these bytes comes to one outcome
pub check_one : (cn tn cnf trace : List ℕ) (o p : Outcome) → CheckDue cn tn cnf trace o → CheckDue cn tn cnf trace p → o ≡ p
check_one cn tn cnf trace o p (inl h) (inl k) = h.1 ∙ sym k.1
check_one cn tn cnf trace o p (inl h) (inr (inl k)) =
    let a = h.0 in let b = k.1 in
    absurd (b.other (one_verdict cnf trace b.formula a.formula b.steps a.steps k.0 Refutes b.reads_cnf a.reads_cnf b.reads_trace a.reads_trace b.shows a.refutes))
check_one cn tn cnf trace o p (inl h) (inr (inr (inl k))) = let a = h.0 in absurd (not_both cnf a.formula k.0 a.reads_cnf k.1)
check_one cn tn cnf trace o p (inl h) (inr (inr (inr k))) =
    let a = h.0 in let b = k.1 in absurd (never_both trace 2 a.steps k.0 a.reads_trace b.faulty)
check_one cn tn cnf trace o p (inr (inl h)) (inl k) =
    let a = k.0 in let b = h.1 in
    absurd (b.other (one_verdict cnf trace b.formula a.formula b.steps a.steps h.0 Refutes b.reads_cnf a.reads_cnf b.reads_trace a.reads_trace b.shows a.refutes))
check_one cn tn cnf trace o p (inr (inl h)) (inr (inl k)) =
    let a = h.1 in let b = k.1 in
    h.2
    ∙ ap (λ v. refused (verdict_line v))
    (one_verdict cnf trace a.formula b.formula a.steps b.steps h.0 k.0 a.reads_cnf b.reads_cnf a.reads_trace b.reads_trace a.shows b.shows)
    ∙ sym k.2
check_one cn tn cnf trace o p (inr (inl h)) (inr (inr (inl k))) = let a = h.1 in absurd (not_both cnf a.formula k.0 a.reads_cnf k.1)
check_one cn tn cnf trace o p (inr (inl h)) (inr (inr (inr k))) =
    let a = h.1 in let b = k.1 in absurd (never_both trace 2 a.steps k.0 a.reads_trace b.faulty)
check_one cn tn cnf trace o p (inr (inr (inl h))) (inl k) = let a = k.0 in absurd (not_both cnf a.formula h.0 a.reads_cnf h.1)
check_one cn tn cnf trace o p (inr (inr (inl h))) (inr (inl k)) = let a = k.1 in absurd (not_both cnf a.formula h.0 a.reads_cnf h.1)
check_one cn tn cnf trace o p (inr (inr (inl h))) (inr (inr (inl k))) =
    h.2 ∙ ap (λ e. bad_input (cnf_line (and_word (codes "cnf") cn) e)) (one_fault cnf h.0 k.0 h.1 k.1) ∙ sym k.2
check_one cn tn cnf trace o p (inr (inr (inl h))) (inr (inr (inr k))) = let a = k.1 in absurd (not_both cnf a.formula h.0 a.reads_cnf h.1)
check_one cn tn cnf trace o p (inr (inr (inr h))) (inl k) =
    let a = k.0 in let b = h.1 in absurd (never_both trace 2 a.steps h.0 a.reads_trace b.faulty)
check_one cn tn cnf trace o p (inr (inr (inr h))) (inr (inl k)) =
    let a = k.1 in let b = h.1 in absurd (never_both trace 2 a.steps h.0 a.reads_trace b.faulty)
check_one cn tn cnf trace o p (inr (inr (inr h))) (inr (inr (inl k))) = let a = h.1 in absurd (not_both cnf a.formula k.0 a.reads_cnf k.1)
check_one cn tn cnf trace o p (inr (inr (inr h))) (inr (inr (inr k))) =
    let a = h.1 in let b = k.1 in
    h.2 ∙ ap (λ e. bad_input (trace_line (and_word (codes "trace") tn) e)) (only_fault trace 2 h.0 k.0 a.faulty b.faulty) ∙ sym k.2
