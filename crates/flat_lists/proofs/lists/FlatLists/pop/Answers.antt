use Rattle.std.proofs.Common.{◌≡◌, ◌-◌, length, take, vec_len, ap, ◌∙◌, arith}
use Rattle.flat_lists.specs.Flat.{Flat}
use Rattle.flat_lists.specs.Ends.{parts, begin_of}
use Rattle.flat_lists.proofs.EndLemmas.{length-parts, IsFlat-pop, parts-popped}
use Rattle.flat_lists.proofs.lists.FlatLists.pop.Goals as goal

-- the remaining ends are in order, up to the remaining items
pub invariant_of-self : goal.invariant_of-self
invariant_of-self g c =
    let counted : vec_len c.self.inside.ends ≡ length c.self.inside.ends.items = c.self.inside.ends.ok.0 in
    let length_is = c.len-last.ensures in
    IsFlat-pop c.self.inside.ends.items c.truncate.new.self.items c.self.inside.items.items c.truncate-2.new.self.items (c.len-last.result - 1) c.begin-end.result
    c.self.invariant (omega arith)
    (c.begin-end.ensures ∙ ap (λ es. begin_of 0 es (c.len-last.result - 1)) c.deref.ensures.value)
    c.truncate.ensures.items c.truncate-2.ensures.items

-- the remaining lists are all but the last
pub returns-clause-lists : goal.returns-clause-lists
returns-clause-lists g c =
    let counted : vec_len c.self.inside.ends ≡ length c.self.inside.ends.items = c.self.inside.ends.ok.0 in
    let length_is = c.len-last.ensures in
    let seen = ap (λ (f : Flat g.row.T.Denot). length f.lists) c.self.view_is in
    let parts_counted = length-parts 0 c.self.inside.ends.items c.self.inside.items.items in
    let last : c.len-last.result - 1 ≡ length c.args.self.now.lists - 1 = omega arith in
    parts-popped c.self.inside.ends.items c.truncate.new.self.items c.self.inside.items.items c.truncate-2.new.self.items (c.len-last.result - 1) c.begin-end.result
    c.self.invariant (omega arith)
    (c.begin-end.ensures ∙ ap (λ es. begin_of 0 es (c.len-last.result - 1)) c.deref.ensures.value)
    c.truncate.ensures.items c.truncate-2.ensures.items
    ∙ ap (λ n. take n (parts 0 c.self.inside.ends.items c.self.inside.items.items)) last
    ∙ ap (λ (f : Flat g.row.T.Denot). take (length c.args.self.now.lists - 1) f.lists) c.self.view_is
