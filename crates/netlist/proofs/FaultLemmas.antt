-- A specification's fault is that of its text or of its design.
use Rattle.std.proofs.Common.{◌≡◌, ◌⊎◌, ℕ, List, Err, inl, inr, ⊎_elim, sym, subst}
use Rattle.blif_defs.specs.declared.error.BlifError.{BlifError}
use Rattle.blif_defs.specs.declared.error.BlifError.TheVariants as texts
use Rattle.blif_defs.specs.Texts.{BlifText, BlifFault}
use Rattle.blif_defs.specs.Values.{BlifValue}
use Rattle.net_defs.specs.NetOf.{NetOf}
use Rattle.net_defs.specs.Specifications.{IsSpecFault}
use Rattle.net_defs.specs.declared.faults.NetError.{NetError}
use Rattle.net_defs.specs.declared.faults.NetError.TheVariants as networks
use Rattle.net_defs.specs.declared.specification.SpecError.{SpecError}
use Rattle.net_defs.specs.declared.specification.SpecError.TheVariants.{NoMemory}
use Rattle.netlist.specs.Faults.{IsOfText, IsOfNetwork}

-- the fault of the text
pub IsSpecFault-text : (text : List ℕ) (fault : BlifError) (error : SpecError) → (fault ≡ texts.NoMemory) ⊎ BlifFault text fault → IsOfText fault error
    → (error ≡ NoMemory) ⊎ IsSpecFault text error
IsSpecFault-text text fault error h of =
    let P : SpecError → Type 0 = λ e. IsSpecFault text e in
    ⊎_elim (λ memory. inl memory.1)
    (λ at. ⊎_elim (λ memory. absurd (at.0 memory)) (λ there. inr (subst P (sym at.1) there)) h)
    of

-- the fault of the design that the text describes
pub IsSpecFault-network : (text : List ℕ) (design : BlifValue) (fault : NetError) (error : SpecError) → BlifText text design
    → (fault ≡ networks.NoMemory) ⊎ NetOf design (Err fault) → IsOfNetwork fault error → (error ≡ NoMemory) ⊎ IsSpecFault text error
IsSpecFault-network text design fault error reads h of =
    let P : SpecError → Type 0 = λ e. IsSpecFault text e in
    ⊎_elim (λ memory. inl memory.1)
    (λ at. ⊎_elim (λ memory. absurd (at.0 memory)) (λ there. inr (subst P (sym at.1) (design, reads, there))) h)
    of
