-- What `verify SPEC BUNDLE C R T I O WORKERS` finds in the bytes of both files, and what it comes to.
use Rattle.std.specs.Prelude.{◌≡◌, ◌⊎◌, ℕ, List, codes}
use Rattle.net_defs.specs.Networks.{Network}
use Rattle.net_defs.specs.Specifications.{HasNetwork, IsSpecFault}
use Rattle.net_defs.specs.declared.specification.SpecError.{SpecError}
use Rattle.fabric_defs.specs.Geometries.{GeometryValue}
use Rattle.fabric_defs.specs.Configurations.{ConfigValue}
use Rattle.miter_defs.specs.Equality.{Equal}
use Rattle.verify_defs.specs.Acceptance.{AcceptsWith}
use Rattle.verify_defs.specs.Refusals.{FirstRefusal}
use Rattle.verify_defs.specs.declared.refusal.Refusal.{Refusal}
use Rattle.pch_lines.specs.Lines.{and_word, ended}
use Rattle.pch_lines.specs.FaultLines.{spec_line}
use Rattle.pch_lines.specs.RefusalLines.{refusal_line}
use Rattle.pch_shell.specs.Outcomes.{Outcome, done, refused, bad_input}

-- the specification describes a network, for which the bundle is accepted; so its configuration equals the network
pub record IsAccepted (g : GeometryValue) (spec bundle : List ℕ) : Type 0 where
  pub net : Network
  pub describes : HasNetwork spec net
  pub config : ConfigValue
  pub accepts : AcceptsWith g net bundle config
  pub equal : Equal net config

-- the specification describes a network, and this is the first reason why the bundle isn't accepted for it
pub record IsRefused (g : GeometryValue) (spec bundle : List ℕ) (reason : Refusal) : Type 0 where
  pub net : Network
  pub describes : HasNetwork spec net
  pub first : FirstRefusal g net bundle reason

-- what `verify` of the bytes of both files comes to
abbrev pub VerifyDue : (spec_name : List ℕ) → GeometryValue → (spec bundle : List ℕ) → Outcome → Type 0
VerifyDue spec_name g spec bundle o =
    (IsAccepted g spec bundle × (o ≡ done (ended (codes "verified"))))
    ⊎ (((reason : Refusal) × IsRefused g spec bundle reason × (o ≡ refused (refusal_line reason)))
    ⊎ ((error : SpecError) × IsSpecFault spec error × (o ≡ bad_input (spec_line (and_word (codes "blif") spec_name) error))))
