-- `verify` of the bytes of its files comes to one outcome.
use Rattle.std.proofs.Common.{◌≡◌, inl, inr, ℕ, List, Ok, Err, codes, sym, ap, subst, ◌∙◌}
use Rattle.net_defs.specs.Networks.{Network}
use Rattle.fabric_defs.specs.Geometries.{GeometryValue}
use Rattle.verify_defs.specs.Refusals.{FirstRefusal}
use Rattle.verify_defs.specs.declared.refusal.Refusal.{Refusal}
use Rattle.verify_laws.proofs.Outcomes.{outcome_one, accepted_outcome, refused_outcome}
use Rattle.pch_lines.specs.Lines.{and_word}
use Rattle.pch_lines.specs.FaultLines.{spec_line}
use Rattle.pch_lines.specs.RefusalLines.{refusal_line}
use Rattle.pch_shell.specs.Outcomes.{Outcome, refused, bad_input}
use Rattle.pch_shell.specs.Verify.{IsAccepted, IsRefused, VerifyDue}
use Rattle.outcome_laws.proofs.Specifying.{one_net, one_spec_fault, net_not_faulty}

-- a bundle that is accepted has no refusal
accepted_not_refused : (g : GeometryValue) (spec bundle : List ℕ) (r : Refusal) → IsAccepted g spec bundle → IsRefused g spec bundle r → ⊥
accepted_not_refused g spec bundle r h k =
    let P : Network → Type 0 = λ net. FirstRefusal g net bundle r in
    let first = subst P (one_net spec k.net h.net k.describes h.describes) k.first in
    let same = outcome_one g h.net bundle (Ok h.config) (Err r) (accepted_outcome g h.net bundle h.config h.accepts)
    (refused_outcome g h.net bundle r first) in
    cc

-- a bundle that isn't has one
one_refusal : (g : GeometryValue) (spec bundle : List ℕ) (r s : Refusal) → IsRefused g spec bundle r → IsRefused g spec bundle s → r ≡ s
one_refusal g spec bundle r s h k =
    let P : Network → Type 0 = λ net. FirstRefusal g net bundle s in
    let first = subst P (one_net spec k.net h.net k.describes h.describes) k.first in
    let same = outcome_one g h.net bundle (Err r) (Err s) (refused_outcome g h.net bundle r h.first) (refused_outcome g h.net bundle s first) in
    cc

-- `verify` of these bytes comes to one outcome
pub verify_one : (sn : List ℕ) (g : GeometryValue) (spec bundle : List ℕ) (o p : Outcome) → VerifyDue sn g spec bundle o → VerifyDue sn g spec bundle p
    → o ≡ p
verify_one sn g spec bundle o p (inl h) (inl k) = h.1 ∙ sym k.1
verify_one sn g spec bundle o p (inl h) (inr (inl k)) = absurd (accepted_not_refused g spec bundle k.0 h.0 k.1)
verify_one sn g spec bundle o p (inl h) (inr (inr k)) = let a = h.0 in absurd (net_not_faulty spec a.net k.0 a.describes k.1)
verify_one sn g spec bundle o p (inr (inl h)) (inl k) = absurd (accepted_not_refused g spec bundle h.0 k.0 h.1)
verify_one sn g spec bundle o p (inr (inl h)) (inr (inl k)) =
    h.2 ∙ ap (λ r. refused (refusal_line r)) (one_refusal g spec bundle h.0 k.0 h.1 k.1) ∙ sym k.2
verify_one sn g spec bundle o p (inr (inl h)) (inr (inr k)) = let a = h.1 in absurd (net_not_faulty spec a.net k.0 a.describes k.1)
verify_one sn g spec bundle o p (inr (inr h)) (inl k) = let a = k.0 in absurd (net_not_faulty spec a.net h.0 a.describes h.1)
verify_one sn g spec bundle o p (inr (inr h)) (inr (inl k)) = let a = k.1 in absurd (net_not_faulty spec a.net h.0 a.describes h.1)
verify_one sn g spec bundle o p (inr (inr h)) (inr (inr k)) =
    h.2 ∙ ap (λ e. bad_input (spec_line (and_word (codes "blif") sn) e)) (one_spec_fault spec h.0 k.0 h.1 k.1) ∙ sym k.2
