use Rattle.std.proofs.Common.{arith, vec_capacity}
use Rattle.flat_lists.proofs.EndLemmas.{shows}
use Rattle.flat_lists.proofs.lists.FlatLists.reserve.Goals as goal

-- there is room for so many more lists
pub returns-clause-list_room : goal.returns-clause-list_room
returns-clause-list_room g c =
    let shown = shows c.args.self.now c.self.inside.ends.items c.self.inside.items.items (vec_capacity c.self.inside.ends) (vec_capacity c.self.inside.items) c.self.invariant c.self.view_is in
    let many = shown.many in
    let counted = c.self.inside.ends.ok.0 in
    let room = c.in_ok-reserve.ensures.ok in
    let same = c.in_ok-reserve.ensures.len in
    omega arith

-- there is room for so many more items
pub returns-clause-item_room : goal.returns-clause-item_room
returns-clause-item_room g c =
    let shown = shows c.args.self.now c.self.inside.ends.items c.self.inside.items.items (vec_capacity c.self.inside.ends) (vec_capacity c.self.inside.items) c.self.invariant c.self.view_is in
    let all = shown.all in
    let counted = c.self.inside.items.ok.0 in
    let room = c.in_ok-reserve-2.ensures.ok in
    let same = c.in_ok-reserve-2.ensures.len in
    omega arith
