use Rattle.produce.proofs.ProducedLemmas.{produced_of}
use Rattle.produce.proofs.production.produce.Goals as goal

-- the bundle of a refutation is accepted
pub returns-in-Ok-clause-produced : goal.returns-in-Ok-clause-produced
returns-in-Ok-clause-produced c =
    let found = c.in_ok-config.field-0 in
    produced_of c.args.spec.now c.args.design.now c.args.g c.args.budget found.config found.log c.in-Ok.bytes.items
    c.in_ok-config.ensures.refutation c.geometry-geometry.ensures.known c.in-Ok.ensures.exact c.in-Ok.ensures.parts
