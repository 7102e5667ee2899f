use Rattle.std.proofs.Common.{sym, subst}
use Rattle.std.specs.Arc.{arc_value}
use Rattle.net_defs.specs.Networks.{Network}
use Rattle.fabric_defs.specs.Configurations.{ConfigValue}
use Rattle.miter_defs.specs.Equality.{Equal}
use Rattle.verify.proofs.verification.verify.Goals as goal

-- the shared net and the shared configuration are those that were judged
pub invariant_of-result : goal.invariant_of-result
invariant_of-result g c =
    let N : Network → Type 0 = λ n. Equal n c.in_ok-config.config in
    let K : ConfigValue → Type 0 = λ k. Equal (arc_value c.in_ok-clone.field-0) k in
    let equal : N (arc_value c.args.net.now) = subst N c.deref.ensures c.in_ok-config.ensures.equal in
    subst K (sym c.in_ok-new.ensures.ok) (subst N (sym c.in_ok-clone.ensures.cases) equal)

-- so they are equal
pub returns-clause-equal : goal.returns-clause-equal
returns-clause-equal g c = invariant_of-result g c
