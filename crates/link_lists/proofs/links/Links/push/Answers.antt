use Rattle.std.proofs.Common.{◌<◌, length, ap, subst, arith, length-set}
use Rattle.link_lists.specs.Linked.{Linked}
use Rattle.link_lists.specs.Chains.{IsLinkedBy}
use Rattle.link_lists.proofs.CallLemmas.{push_gives}
use Rattle.link_lists.proofs.links.Links.push.Goals as goal

-- the lists are linked with it
pub invariant_of-self : goal.invariant_of-self
invariant_of-self c =
    let next = c.self.inside.next.items in
    let heads = c.self.inside.heads.items in
    let size_is = ap (λ (v : Linked). v.size) c.self.view_is in
    let inside : c.args.w < length next = let a = c.requires.within in omega arith in
    let linked = subst (λ (v : Linked). IsLinkedBy next heads v.lists) c.self.view_is c.self.invariant.0 in
    let gives = push_gives next heads c.args.self.now.lists linked c.args.list c.args.w c.index.result.now c.requires.list inside c.requires.out c.index.ensures in
    let long = length-set next c.args.w c.index.result.now in
    let bits = c.self.invariant.1 in
    (gives.linked, omega arith)

-- it is the first of its list
pub returns-clause-lists : goal.returns-clause-lists
returns-clause-lists c =
    let next = c.self.inside.next.items in
    let heads = c.self.inside.heads.items in
    let size_is = ap (λ (v : Linked). v.size) c.self.view_is in
    let inside : c.args.w < length next = let a = c.requires.within in omega arith in
    let linked = subst (λ (v : Linked). IsLinkedBy next heads v.lists) c.self.view_is c.self.invariant.0 in
    let gives = push_gives next heads c.args.self.now.lists linked c.args.list c.args.w c.index.result.now c.requires.list inside c.requires.out c.index.ensures in
    gives.are
