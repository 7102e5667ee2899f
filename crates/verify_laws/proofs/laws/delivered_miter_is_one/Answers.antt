use Rattle.verify_laws.proofs.Delivered.{delivered_unique, miter_fault_unique, delivered_not_faulty}
use Rattle.verify_laws.proofs.laws.delivered_miter_is_one.Goals as goal

-- bundle, configuration and cells are determined one after the other
pub returns : goal.returns
returns c = record { miter = delivered_unique; fault = miter_fault_unique; not_both = delivered_not_faulty }
