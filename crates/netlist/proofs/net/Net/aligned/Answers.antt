use Rattle.std.proofs.Common.{◌≡◌, List, ℕ, sym, subst, rules}
use Rattle.net_defs.specs.Networks.{Network}
use Rattle.net_defs.specs.Orders.{IsOrder}
use Rattle.net_defs.specs.Alignments.{IsAligned, HasOutputsOf}
use Rattle.net_laws.proofs.NetLemmas.{IsNet-aligned}
use Rattle.net_laws.proofs.AlignLemmas.{HasOutputsOf-aligned}
use Rattle.netlist.proofs.MoveLemmas.{IsOrder-aligned}
use Rattle.netlist.proofs.net.Net.aligned.Goals as goal

-- aligning keeps a network within the limits
pub new-requires-clause-net : goal.new-requires-clause-net
new-requires-clause-net c =
    let P : Network → Type 0 = λ m. IsAligned m c.args.p.now c.in_ok-network.network in
    IsNet-aligned c.args.self.now c.args.p.now c.in_ok-network.network c.order.ensures.net c.requires
    (subst P c.network.ensures.network c.in_ok-network.ensures)

-- and its nodes in their order
pub new-requires-clause-order : goal.new-requires-clause-order
new-requires-clause-order c =
    let P : Network → Type 0 = λ m. IsAligned m c.args.p.now c.in_ok-network.network in
    let Q : List ℕ → Type 0 = λ order. IsOrder c.in_ok-network.network order in
    let same : c.order.result.now ≡ c.in_ok-order.order.items = search rules in
    subst Q same
    (IsOrder-aligned c.args.self.now c.args.p.now c.in_ok-network.network c.order.result.now c.requires
    (subst P c.network.ensures.network c.in_ok-network.ensures) c.order.ensures.order)

-- and its outputs, up to their order
pub returns-clause-outputs : goal.returns-clause-outputs
returns-clause-outputs c =
    let P : Network → Type 0 = λ m. IsAligned m c.args.p.now c.in_ok-network.network in
    let Q : Network → Type 0 = λ m. HasOutputsOf c.args.self.now c.args.p.now m in
    subst Q (sym c.new.ensures)
    (HasOutputsOf-aligned c.args.self.now c.args.p.now c.in_ok-network.network c.requires
    (subst P c.network.ensures.network c.in_ok-network.ensures))
