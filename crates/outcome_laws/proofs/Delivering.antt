-- `cnf` of the bytes of its files comes to one outcome.
use Rattle.std.proofs.Common.{◌≡◌, inl, inr, ℕ, List, codes, sym, ap, subst, ◌∙◌}
use Rattle.clause_defs.specs.Formulas.{Formula}
use Rattle.sat_text_defs.specs.Printed.{cnf_text}
use Rattle.net_defs.specs.Networks.{Network}
use Rattle.verify_defs.specs.Deliveries.{IsDeliveredMiter, MiterFault}
use Rattle.verify_defs.specs.declared.miter_error.MiterError.{MiterError}
use Rattle.verify_laws.proofs.Delivered.{delivered_unique, delivered_not_faulty, miter_fault_unique}
use Rattle.pch_lines.specs.Lines.{and_word}
use Rattle.pch_lines.specs.FaultLines.{spec_line, miter_error_line}
use Rattle.pch_shell.specs.Outcomes.{Outcome, done, bad_input}
use Rattle.pch_shell.specs.Cnf.{HasMiter, LacksMiterFor, CnfDue}
use Rattle.outcome_laws.proofs.Specifying.{one_net, one_spec_fault, net_not_faulty}

-- a specification and a bundle have one miter
one_miter : (spec bundle : List ℕ) (m n : Formula) → HasMiter spec bundle m → HasMiter spec bundle n → m ≡ n
one_miter spec bundle m n h k =
    let P : Network → Type 0 = λ net. IsDeliveredMiter net bundle n in
    delivered_unique h.net bundle m n h.delivered (subst P (one_net spec k.net h.net k.describes h.describes) k.delivered)

-- or one fault
one_miter_fault : (spec bundle : List ℕ) (e f : MiterError) → LacksMiterFor spec bundle e → LacksMiterFor spec bundle f → e ≡ f
one_miter_fault spec bundle e f h k =
    let P : Network → Type 0 = λ net. MiterFault net bundle f in
    miter_fault_unique h.net bundle e f h.faulty (subst P (one_net spec k.net h.net k.describes h.describes) k.faulty)

-- and not both
miter_not_faulty : (spec bundle : List ℕ) (m : Formula) (e : MiterError) → HasMiter spec bundle m → LacksMiterFor spec bundle e → ⊥
miter_not_faulty spec bundle m e h k =
    let P : Network → Type 0 = λ net. MiterFault net bundle e in
    delivered_not_faulty h.net bundle m e h.delivered (subst P (one_net spec k.net h.net k.describes h.describes) k.faulty)

-- `cnf` of these bytes comes to one outcome
pub cnf_one : (sn bn spec bundle : List ℕ) (o p : Outcome) → CnfDue sn bn spec bundle o → CnfDue sn bn spec bundle p → o ≡ p
cnf_one sn bn spec bundle o p (inl h) (inl k) = h.2 ∙ ap (λ m. done (cnf_text m)) (one_miter spec bundle h.0 k.0 h.1 k.1) ∙ sym k.2
cnf_one sn bn spec bundle o p (inl h) (inr (inl k)) = let a = h.1 in absurd (net_not_faulty spec a.net k.0 a.describes k.1)
cnf_one sn bn spec bundle o p (inl h) (inr (inr k)) = absurd (miter_not_faulty spec bundle h.0 k.0 h.1 k.1)
cnf_one sn bn spec bundle o p (inr (inl h)) (inl k) = let a = k.1 in absurd (net_not_faulty spec a.net h.0 a.describes h.1)
cnf_one sn bn spec bundle o p (inr (inl h)) (inr (inl k)) =
    h.2 ∙ ap (λ e. bad_input (spec_line (and_word (codes "blif") sn) e)) (one_spec_fault spec h.0 k.0 h.1 k.1) ∙ sym k.2
cnf_one sn bn spec bundle o p (inr (inl h)) (inr (inr k)) = let a = k.1 in absurd (net_not_faulty spec a.net h.0 a.describes h.1)
cnf_one sn bn spec bundle o p (inr (inr h)) (inl k) = absurd (miter_not_faulty spec bundle k.0 h.0 k.1 h.1)
cnf_one sn bn spec bundle o p (inr (inr h)) (inr (inl k)) = let a = h.1 in absurd (net_not_faulty spec a.net k.0 a.describes k.1)
cnf_one sn bn spec bundle o p (inr (inr h)) (inr (inr k)) =
    h.2 ∙ ap (λ e. bad_input (miter_error_line (and_word (codes "bundle") bn) e)) (one_miter_fault spec bundle h.0 k.0 h.1 k.1) ∙ sym k.2
