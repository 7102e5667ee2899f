-- What is accepted isn't refused, and which fault of the texts comes first.
use Rattle.std.proofs.Common.{◌≡◌, ◌≢◌, ◌⊎◌, inl, inr, ℕ, List, Ok, Err, subst, ◌∙◌}
use Rattle.net_defs.specs.Networks.{Network}
use Rattle.net_defs.specs.Specifications.{HasNetwork, IsSpecFault}
use Rattle.net_defs.specs.declared.specification.SpecError.{SpecError}
use Rattle.net_defs.specs.declared.specification.SpecError.TheVariants as spec_errors
use Rattle.fabric_defs.specs.Geometries.{GeometryValue}
use Rattle.verify_defs.specs.Acceptance.{Accepts}
use Rattle.verify_defs.specs.Refusals.{FirstRefusal}
use Rattle.verify_defs.specs.declared.refusal.Refusal.{Refusal}
use Rattle.verify_defs.specs.declared.refusal.Refusal.TheVariants.{NoMemory}
use Rattle.verify_laws.proofs.Outcomes.{accepted_outcome, refused_outcome, outcome_one}
use Rattle.demo_texts.specs.Texts.{ripple_text}
use Rattle.demonstration.specs.Demonstrations.{IsDesignFaulty, AreFaulty}
use Rattle.demonstration.specs.declared.adders.AddersError.{AddersError}
use Rattle.demonstration.specs.declared.adders.AddersError.TheVariants as errors

-- what is accepted has no refusal, so it can only be memory that was wanting
pub accepted_not_refused : (g : GeometryValue) (net : Network) (bytes : List ℕ) (r : Refusal) → Accepts g net bytes
    → (r ≡ NoMemory) ⊎ FirstRefusal g net bytes r → r ≢ NoMemory → ⊥
accepted_not_refused g net bytes r accepted (inl none) real = real none
accepted_not_refused g net bytes r (config, accepted) (inr first) real =
    let same = outcome_one g net bytes (Ok config) (Err r) (accepted_outcome g net bytes config accepted)
    (refused_outcome g net bytes r first) in cc

-- a fault that isn't want of memory is that of the text that was read
pub fault_of_text : (text now items : List ℕ) (e : SpecError) → now ≡ items → items ≡ text
    → (e ≡ spec_errors.NoMemory) ⊎ IsSpecFault now e → e ≢ spec_errors.NoMemory → IsSpecFault text e
fault_of_text text now items e a b (inl none) real = absurd (real none)
fault_of_text text now items e a b (inr fault) real = subst (λ t. IsSpecFault t e) (a ∙ b) fault

-- where the first text has no fault, the fault of the second one is the first
pub design_faulty : (bits : ℕ) (net : Network) (e : AddersError) → HasNetwork (ripple_text bits) net → IsDesignFaulty bits e → AreFaulty bits e
design_faulty bits net (errors.Spec error) describes h = absurd h
design_faulty bits net (errors.Design error) describes h = (net, describes, h)
design_faulty bits net errors.NoMemory describes h = tt
