use Rattle.std.proofs.Common.{◌++◌, ◌∷◌, [], length, arith, ap, ◌∙◌, vec_capacity, length-append}
use Rattle.flat_lists.specs.Flat.{Flat}
use Rattle.flat_lists.proofs.EndLemmas.{shows, IsFlat-push, parts-pushed}
use Rattle.flat_lists.proofs.lists.FlatLists.push_reserved.Goals as goal

-- there is room for one more end
pub push_reserved-requires : goal.push_reserved-requires
push_reserved-requires g c =
    let shown = shows c.args.self.now c.self.inside.ends.items c.self.inside.items.items (vec_capacity c.self.inside.ends) (vec_capacity c.self.inside.items) c.self.invariant c.self.view_is in
    let many = shown.many in
    let counted = c.self.inside.ends.ok.0 in
    let room_is = shown.list_room_is in
    let room = c.requires.list_room in
    omega arith

-- there is room for the list's items
pub append-requires : goal.append-requires
append-requires g c =
    let shown = shows c.args.self.now c.self.inside.ends.items c.self.inside.items.items (vec_capacity c.self.inside.ends) (vec_capacity c.self.inside.items) c.self.invariant c.self.view_is in
    let all = shown.all in
    let room_is = shown.item_room_is in
    let room = c.requires.item_room in
    omega arith

-- the number of all items fits in 32 bits
pub overflow_cast-len : goal.overflow_cast-len
overflow_cast-len g c =
    let shown = shows c.args.self.now c.self.inside.ends.items c.self.inside.items.items (vec_capacity c.self.inside.ends) (vec_capacity c.self.inside.items) c.self.invariant c.self.view_is in
    let all = shown.all in
    let room_is = shown.item_room_is in
    let room = c.requires.item_room in
    let few = c.requires.few_items in
    let counted = c.self.inside.items.ok.0 in
    let longer = ap length c.append.ensures.items ∙ length-append c.self.inside.items.items c.args.list.now in
    let after = c.append.new.items.ok.0 in
    let length_is = c.len.ensures in
    omega arith

-- the new end is behind the others, at the end of the items
pub invariant_of-self : goal.invariant_of-self
invariant_of-self g c =
    let shown = shows c.args.self.now c.self.inside.ends.items c.self.inside.items.items (vec_capacity c.self.inside.ends) (vec_capacity c.self.inside.items) c.self.invariant c.self.view_is in
    let all = shown.all in
    let many = shown.many in
    let room_is = shown.item_room_is in
    let room = c.requires.item_room in
    let few_items = c.requires.few_items in
    let few_lists = c.requires.few_lists in
    let counted = c.self.inside.items.ok.0 in
    IsFlat-push c.self.inside.ends.items c.push_reserved.new.self.items c.self.inside.items.items c.args.list.now c.append.new.items.items c.len.result
    c.self.invariant (omega arith) (omega arith) c.push_reserved.ensures.items
    c.append.ensures.items
    (c.len.ensures ∙ c.append.new.items.ok.0)

-- the new items are one more list
pub returns-clause-lists : goal.returns-clause-lists
returns-clause-lists g c =
    let shown = shows c.args.self.now c.self.inside.ends.items c.self.inside.items.items (vec_capacity c.self.inside.ends) (vec_capacity c.self.inside.items) c.self.invariant c.self.view_is in
    let all = shown.all in
    let room_is = shown.item_room_is in
    let room = c.requires.item_room in
    let counted = c.self.inside.items.ok.0 in
    parts-pushed c.self.inside.ends.items c.push_reserved.new.self.items c.self.inside.items.items c.args.list.now c.append.new.items.items c.len.result
    c.self.invariant c.push_reserved.ensures.items
    c.append.ensures.items
    (c.len.ensures ∙ c.append.new.items.ok.0)
    ∙ ap (λ (f : Flat g.row.T.Denot). f.lists ++ c.args.list.now ∷ []) c.self.view_is
