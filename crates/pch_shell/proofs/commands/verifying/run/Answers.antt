use Rattle.std.proofs.Common.{rules}
use Rattle.pch_shell.proofs.VerifyLemmas.{refused_due}
use Rattle.pch_shell.proofs.commands.verifying.run.Goals as goal

-- the first refusal ends as not accepted
pub returns : goal.returns
returns g c =
    refused_due _ _ _ _ c.in-Ok.net c.in-Err-verify.refusal c.refused.result
    (rw c.deref.ensures.value at c.in-Ok.ensures)
    (rw (c.deref-2.ensures.value, c.in_ok-net.ensures.ok) at c.in-Err-verify.ensures.refused)
    (search rules) (search rules)
