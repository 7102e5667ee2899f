-- What `verify` comes to where the bundle is refused.
use Rattle.std.proofs.Common.{◌≡◌, ◌≢◌, ◌⊎◌, inl, inr, ℕ, List}
use Rattle.net_defs.specs.Networks.{Network}
use Rattle.net_defs.specs.Specifications.{HasNetwork}
use Rattle.fabric_defs.specs.Geometries.{GeometryValue}
use Rattle.verify_defs.specs.Refusals.{FirstRefusal}
use Rattle.verify_defs.specs.declared.refusal.Refusal.{Refusal}
use Rattle.verify_defs.specs.declared.refusal.Refusal.TheVariants.{NoMemory}
use Rattle.pch_lines.specs.RefusalLines.{refusal_line}
use Rattle.pch_shell.specs.Outcomes.{Outcome, refused}
use Rattle.pch_shell.specs.Verify.{VerifyDue}

-- a bundle with a first refusal ends as not accepted
pub refused_due : (sn : List ℕ) (g : GeometryValue) (spec bundle : List ℕ) (net : Network) (reason : Refusal) (o : Outcome)
    → HasNetwork spec net → (reason ≡ NoMemory) ⊎ FirstRefusal g net bundle reason → reason ≢ NoMemory
    → o ≡ refused (refusal_line reason) → VerifyDue sn g spec bundle o
refused_due sn g spec bundle net reason o describes (inl none) real is = absurd (real none)
refused_due sn g spec bundle net reason o describes (inr first) real is =
    inr (inl (reason, record { net = net; describes = describes; first = first }, is))
