-- What `cnf SPEC BUNDLE` finds in the bytes of both files, and what it comes to.
use Rattle.std.specs.Prelude.{◌≡◌, ◌⊎◌, ℕ, List, codes}
use Rattle.clause_defs.specs.Formulas.{Formula}
use Rattle.sat_text_defs.specs.Printed.{cnf_text}
use Rattle.net_defs.specs.Networks.{Network}
use Rattle.net_defs.specs.Specifications.{HasNetwork, IsSpecFault}
use Rattle.net_defs.specs.declared.specification.SpecError.{SpecError}
use Rattle.verify_defs.specs.Deliveries.{IsDeliveredMiter, MiterFault}
use Rattle.verify_defs.specs.declared.miter_error.MiterError.{MiterError}
use Rattle.pch_lines.specs.Lines.{and_word}
use Rattle.pch_lines.specs.FaultLines.{spec_line, miter_error_line}
use Rattle.pch_shell.specs.Outcomes.{Outcome, done, bad_input}

-- the specification describes a network, which has this miter with the bundle
pub record HasMiter (spec bundle : List ℕ) (miter : Formula) : Type 0 where
  pub net : Network
  pub describes : HasNetwork spec net
  pub delivered : IsDeliveredMiter net bundle miter

-- the specification describes a network, with which the bundle has no miter, for this fault
pub record LacksMiterFor (spec bundle : List ℕ) (error : MiterError) : Type 0 where
  pub net : Network
  pub describes : HasNetwork spec net
  pub faulty : MiterFault net bundle error

-- what `cnf` of the bytes of both files comes to
abbrev pub CnfDue : (spec_name bundle_name spec bundle : List ℕ) → Outcome → Type 0
CnfDue spec_name bundle_name spec bundle o =
    ((miter : Formula) × HasMiter spec bundle miter × (o ≡ done (cnf_text miter)))
    ⊎ (((error : SpecError) × IsSpecFault spec error × (o ≡ bad_input (spec_line (and_word (codes "blif") spec_name) error)))
    ⊎ ((error : MiterError) × LacksMiterFor spec bundle error
    × (o ≡ bad_input (miter_error_line (and_word (codes "bundle") bundle_name) error))))
