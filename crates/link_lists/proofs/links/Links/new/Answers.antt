use Rattle.std.proofs.Common.{◌≡◌, length, ap, ◌∙◌, arith}
use Rattle.std.proofs.lemmas.List.{length-replicate}
use Rattle.link_lists.proofs.LinkLemmas.{empty_lists}
use Rattle.link_lists.proofs.links.Links.new.Goals as goal

-- all lists are empty
pub invariant_of-result : goal.invariant_of-result
invariant_of-result c =
    let nexts = (c.in_ok-next.ensures {u = tt}).items_if_clones_equal (λ y e. e) in
    let heads = (c.in_ok-heads.ensures {u = tt}).items_if_clones_equal (λ y e. e) in
    let long : length c.in_ok-next.next.items ≡ c.args.size = ap length nexts ∙ length-replicate c.args.size 0 in
    let bits = c.ranges.size.fits in
    ((empty_lists c.in_ok-next.next.items c.in_ok-heads.heads.items c.args.lists heads).linked, omega arith)

-- and so they are
pub returns-clause-lists : goal.returns-clause-lists
returns-clause-lists c = (empty_lists _ _ c.args.lists ((c.in_ok-heads.ensures {u = tt}).items_if_clones_equal (λ y e. e))).are
