use Rattle.std.proofs.Common.{◌≡◌, ◌<◌, length, vec_len, ap, subst, arith}
use Rattle.std.proofs.lemmas.List.{get_or_read}
use Rattle.link_lists.specs.Linked.{Linked}
use Rattle.link_lists.specs.Chains.{IsLinkedBy}
use Rattle.link_lists.proofs.LinkLemmas.{empty_list}
use Rattle.link_lists.proofs.CallLemmas.{pop_inside, pop_gives}
use Rattle.link_lists.proofs.links.Links.pop.Goals as goal

-- a list whose head is 0 is empty
pub returns-then-head-eq0-clause-empty : goal.returns-then-head-eq0-clause-empty
returns-then-head-eq0-clause-empty c =
    let next = c.self.inside.next.items in
    let heads = c.self.inside.heads.items in
    let lists = c.args.self.now.lists in
    let seen = ap (λ (v : Linked). v.lists) c.self.view_is in
    let linked = subst (IsLinkedBy next heads) seen c.self.invariant.0 in
    let many : length lists ≡ length heads = linked.count in
    let none = c.if-head-eq0.true in
    let lt : c.args.list < length heads = let a = c.requires in omega arith in
    let head = get_or_read heads c.args.list c.index-head.result.now lt c.index-head.ensures 0 in
    empty_list next heads lists linked c.args.list (omega arith)

-- the first number is one of those that there are
pub index-requires : goal.index-requires
index-requires c =
    let some = c.if-head-eq0.false in
    let linked = subst (λ (v : Linked). IsLinkedBy c.self.inside.next.items c.self.inside.heads.items v.lists) c.self.view_is c.self.invariant.0 in
    let counted : vec_len c.self.inside.next ≡ length c.self.inside.next.items = c.self.inside.next.ok.0 in
    let inside = pop_inside c.self.inside.next.items c.self.inside.heads.items c.args.self.now.lists linked c.args.list c.index-head.result.now c.requires c.index-head.ensures (omega arith) in
    omega arith

-- the lists are linked without it
pub invariant_of-self : goal.invariant_of-self
invariant_of-self c =
    let some = c.if-head-eq0.false in
    let linked = subst (λ (v : Linked). IsLinkedBy c.self.inside.next.items c.self.inside.heads.items v.lists) c.self.view_is c.self.invariant.0 in
    let gives = pop_gives c.self.inside.next.items c.self.inside.heads.items c.args.self.now.lists linked c.args.list c.index-head.result.now c.requires c.index-head.ensures (omega arith) c.index.result.now c.index.ensures in
    (gives.linked, c.self.invariant.1)

-- it was the first of its list
pub returns-clause-first : goal.returns-clause-first
returns-clause-first c =
    let some = c.if-head-eq0.false in
    let linked = subst (λ (v : Linked). IsLinkedBy c.self.inside.next.items c.self.inside.heads.items v.lists) c.self.view_is c.self.invariant.0 in
    let gives = pop_gives c.self.inside.next.items c.self.inside.heads.items c.args.self.now.lists linked c.args.list c.index-head.result.now c.requires c.index-head.ensures (omega arith) c.index.result.now c.index.ensures in
    gives.first

-- the other lists stay
pub returns-clause-rest : goal.returns-clause-rest
returns-clause-rest c =
    let some = c.if-head-eq0.false in
    let linked = subst (λ (v : Linked). IsLinkedBy c.self.inside.next.items c.self.inside.heads.items v.lists) c.self.view_is c.self.invariant.0 in
    let gives = pop_gives c.self.inside.next.items c.self.inside.heads.items c.args.self.now.lists linked c.args.list c.index-head.result.now c.requires c.index-head.ensures (omega arith) c.index.result.now c.index.ensures in
    gives.rest

-- it is in no list
pub returns-clause-out : goal.returns-clause-out
returns-clause-out c =
    let some = c.if-head-eq0.false in
    let linked = subst (λ (v : Linked). IsLinkedBy c.self.inside.next.items c.self.inside.heads.items v.lists) c.self.view_is c.self.invariant.0 in
    let gives = pop_gives c.self.inside.next.items c.self.inside.heads.items c.args.self.now.lists linked c.args.list c.index-head.result.now c.requires c.index-head.ensures (omega arith) c.index.result.now c.index.ensures in
    gives.out

-- it is below the size
pub returns-clause-within : goal.returns-clause-within
returns-clause-within c =
    let some = c.if-head-eq0.false in
    let linked = subst (λ (v : Linked). IsLinkedBy c.self.inside.next.items c.self.inside.heads.items v.lists) c.self.view_is c.self.invariant.0 in
    let gives = pop_gives c.self.inside.next.items c.self.inside.heads.items c.args.self.now.lists linked c.args.list c.index-head.result.now c.requires c.index-head.ensures (omega arith) c.index.result.now c.index.ensures in
    let size_is = ap (λ (v : Linked). v.size) c.self.view_is in
    let inside = gives.inside in
    omega arith
