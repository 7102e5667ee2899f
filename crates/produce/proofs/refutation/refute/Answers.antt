use Rattle.produce.proofs.EndLemmas.{spec_fits, refutation_of, unrefuted_ends}
use Rattle.produce.proofs.refutation.refute.Goals as goal

-- the aligned design has the specification's interface, and fits where it is placed
pub refuted_miter-requires-clause-fits : goal.refuted_miter-requires-clause-fits
refuted_miter-requires-clause-fits c =
    spec_fits c.args.spec.now c.args.design.now c.in_ok-net.net c.in_ok-config.config c.in_ok-net.ensures.aligned c.in_ok-config.ensures.equal

-- what was aligned, placed and refuted is a refutation
pub returns-in-Ok-clause-refutation : goal.returns-in-Ok-clause-refutation
returns-in-Ok-clause-refutation c =
    refutation_of c.args.spec.now c.args.design.now c.in_ok-net.net c.args.g c.in_ok-config.config c.args.budget c.in-Ok.log
    c.in_ok-net.ensures.aligned c.in_ok-config.ensures.placed c.in_ok-config.ensures.equal c.in-Ok.ensures.refuted

-- the causes of the search are causes of the whole
pub returns-clause-ends : goal.returns-clause-ends
returns-clause-ends c =
    unrefuted_ends c.args.spec.now c.args.design.now c.in_ok-net.net c.args.g c.in_ok-config.config c.args.budget c.in-Err.end
    c.in_ok-net.ensures.aligned c.inputs-inputs.ensures.net c.in_ok-config.ensures.placed c.in_ok-config.ensures.equal c.in-Err.ensures.unrefuted
