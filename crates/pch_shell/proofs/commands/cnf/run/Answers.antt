use Rattle.pch_shell.proofs.CnfLemmas.{bad_bundle_due}
use Rattle.pch_shell.proofs.commands.cnf.run.Goals as goal

-- a bundle with a fault is bad input, where the specification has none
pub returns-in-Err-delivered_miter : goal.returns-in-Err-delivered_miter
returns-in-Err-delivered_miter c =
    bad_bundle_due c.bad_bundle.result _ _ _ _ c.in-Ok.net c.in-Err-delivered_miter.error
    (rw c.deref.ensures.value at c.in-Ok.ensures) (rw c.deref-2.ensures.value at c.in-Err-delivered_miter.ensures.fault)
    c.bad_bundle.ensures.ending c.bad_bundle.ensures.fault
