use Rattle.blif_read.specs.Views.{blif_of}
use Rattle.netlist.proofs.NetworkLemmas.{HasFanInsWithin-built, HasShortNodes-built, few_nodes-built, IsNet-built}
use Rattle.netlist.proofs.from_blif.build.Goals as goal

-- the fan-ins that were built are signals of the network
pub order_of-requires-clause-fan_ins : goal.order_of-requires-clause-fan_ins
order_of-requires-clause-fan_ins c =
    HasFanInsWithin-built (blif_of c.args.b.now) c.in_ok-network.network (c.in_ok-network.ensures c.in_ok-index.ensures) c.requires

-- a node has no more fan-ins than a cover has inputs
pub order_of-requires-clause-short : goal.order_of-requires-clause-short
order_of-requires-clause-short c =
    HasShortNodes-built (blif_of c.args.b.now) c.in_ok-network.network (c.in_ok-network.ensures c.in_ok-index.ensures) c.requires

-- there are no more nodes than covers
pub order_of-requires-clause-within : goal.order_of-requires-clause-within
order_of-requires-clause-within c =
    few_nodes-built (blif_of c.args.b.now) c.in_ok-network.network (c.in_ok-network.ensures c.in_ok-index.ensures) c.requires

-- an acyclic network of a design is within the limits
pub new-requires-clause-net : goal.new-requires-clause-net
new-requires-clause-net c =
    IsNet-built (blif_of c.args.b.now) c.in_ok-network.network (c.in_ok-network.ensures c.in_ok-index.ensures) c.requires c.in_ok-order.ensures.1
