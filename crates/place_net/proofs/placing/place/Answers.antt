use Rattle.place_net.proofs.EqualLemmas.{placing_of, equal_if}
use Rattle.place_net.proofs.placing.place.Goals as goal

-- what is placed is the reference mapping
pub returns-clause-placing : goal.returns-clause-placing
returns-clause-placing c =
    placing_of c.args.net.now c.in-Ok.luts c.args.g c.place_route.result c.in-Ok.ensures.reference c.place_route.ensures.route

-- so it computes the network
pub returns-clause-equal : goal.returns-clause-equal
returns-clause-equal c =
    equal_if c.args.net.now c.in-Ok.luts c.args.g c.place_route.result c.in-Ok.ensures.reference c.in-Ok.ensures.mapped
    c.in-Ok.ensures.outputs c.place_route.ensures.route c.place_route.ensures.outputs
