-- What `cnf` comes to where the bundle gives no miter.
use Rattle.std.proofs.Common.{◌≡◌, ◌≢◌, ◌⊎◌, inl, inr, ℕ, List, Result, Ok, Err, IfOk, codes}
use Rattle.net_defs.specs.Networks.{Network}
use Rattle.net_defs.specs.Specifications.{HasNetwork}
use Rattle.verify_defs.specs.Deliveries.{MiterFault}
use Rattle.verify_defs.specs.declared.miter_error.MiterError.{MiterError}
use Rattle.verify_defs.specs.declared.miter_error.MiterError.TheVariants.{NoMemory}
use Rattle.pch_lines.specs.Lines.{and_word}
use Rattle.pch_lines.specs.FaultLines.{miter_error_line}
use Rattle.pch_shell.specs.Outcomes.{Outcome, bad_input}
use Rattle.pch_shell.specs.Cnf.{CnfDue}

-- a bundle that gives no miter with the specification ends as bad input
pub bad_bundle_due : {N : Type 0} (r : Result Outcome N) (sn bn spec bundle : List ℕ) (net : Network) (error : MiterError)
    → HasNetwork spec net → (error ≡ NoMemory) ⊎ MiterFault net bundle error
    → IfOk r (λ o. o ≡ bad_input (miter_error_line (and_word (codes "bundle") bn) error))
    → IfOk r (λ o. error ≢ NoMemory)
    → IfOk r (CnfDue sn bn spec bundle)
bad_bundle_due (Ok o) sn bn spec bundle net error describes (inl none) is real = absurd (real none)
bad_bundle_due (Ok o) sn bn spec bundle net error describes (inr fails) is real =
    inr (inr (error, record { net = net; describes = describes; faulty = fails }, is))
bad_bundle_due (Err n) sn bn spec bundle net error describes fails is real = is
