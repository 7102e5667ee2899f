use Rattle.std.proofs.Common.{◌≡◌, ◌<◌, length, ap, subst, arith}
use Rattle.std.proofs.lemmas.List.{get_or_read}
use Rattle.link_lists.specs.Linked.{Linked}
use Rattle.link_lists.specs.Chains.{IsLinkedBy}
use Rattle.link_lists.proofs.LinkLemmas.{turned}
use Rattle.link_lists.proofs.links.Links.turn.Goals as goal

-- the lists are linked so
pub invariant_of-self : goal.invariant_of-self
invariant_of-self c =
    let next = c.self.inside.next.items in
    let heads = c.self.inside.heads.items in
    let lists = c.args.self.now.lists in
    let seen = ap (λ (v : Linked). v.lists) c.self.view_is in
    let linked = subst (IsLinkedBy next heads) seen c.self.invariant.0 in
    let many : length lists ≡ length heads = linked.count in
    let from_lt : c.args.from < length heads = let a = c.requires.from in omega arith in
    let to_lt : c.args.to < length heads = let a = c.requires.to in omega arith in
    let follows = get_or_read heads c.args.from c.index.result.now from_lt c.index.ensures 0 in
    let gives = turned next heads lists linked c.args.from c.args.to c.index.result.now from_lt to_lt c.requires.empty follows in
    (gives.linked, c.self.invariant.1)

-- the numbers are in the other list
pub returns-clause-lists : goal.returns-clause-lists
returns-clause-lists c =
    let next = c.self.inside.next.items in
    let heads = c.self.inside.heads.items in
    let lists = c.args.self.now.lists in
    let seen = ap (λ (v : Linked). v.lists) c.self.view_is in
    let linked = subst (IsLinkedBy next heads) seen c.self.invariant.0 in
    let many : length lists ≡ length heads = linked.count in
    let from_lt : c.args.from < length heads = let a = c.requires.from in omega arith in
    let to_lt : c.args.to < length heads = let a = c.requires.to in omega arith in
    let follows = get_or_read heads c.args.from c.index.result.now from_lt c.index.ensures 0 in
    let gives = turned next heads lists linked c.args.from c.args.to c.index.result.now from_lt to_lt c.requires.empty follows in
    gives.are
