-- Bytes specify one network, or have one fault.
use Rattle.std.proofs.Common.{◌≡◌, ℕ, List, Ok, Err}
use Rattle.net_defs.specs.Networks.{Network}
use Rattle.net_defs.specs.Specifications.{HasNetwork, IsSpecFault}
use Rattle.net_defs.specs.declared.specification.SpecError.{SpecError}
use Rattle.net_laws.proofs.SpecificationLemmas.{specification_is_unique}

-- bytes specify one network
pub one_net : (spec : List ℕ) (m n : Network) → HasNetwork spec m → HasNetwork spec n → m ≡ n
one_net spec m n h k = let same = specification_is_unique spec (Ok m) (Ok n) h k in cc

-- or have one fault
pub one_spec_fault : (spec : List ℕ) (e f : SpecError) → IsSpecFault spec e → IsSpecFault spec f → e ≡ f
one_spec_fault spec e f h k = let same = specification_is_unique spec (Err e) (Err f) h k in cc

-- and not both
pub net_not_faulty : (spec : List ℕ) (m : Network) (e : SpecError) → HasNetwork spec m → IsSpecFault spec e → ⊥
net_not_faulty spec m e h k = let same = specification_is_unique spec (Ok m) (Err e) h k in cc
