use Rattle.clause_laws.proofs.Resolvents.{resolvent-step, step-resolvent}
use Rattle.clause_laws.proofs.laws.computed_resolvent_is_the_rules.Goals as goal

pub returns : goal.returns
returns c r d s = (resolvent-step r d s, λ h. step-resolvent r d s h.0 h.1)
