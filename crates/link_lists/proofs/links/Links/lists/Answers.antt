use Rattle.std.proofs.Common.{length, ap, arith}
use Rattle.link_lists.specs.Linked.{Linked}
use Rattle.link_lists.proofs.links.Links.lists.Goals as goal

pub returns : goal.returns
returns c =
    let seen = ap (λ (v : Linked). length v.lists) c.self.view_is in
    let many = c.self.invariant.0.count in
    let len = c.len.ensures in
    omega arith
