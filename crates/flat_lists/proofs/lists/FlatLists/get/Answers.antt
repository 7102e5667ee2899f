use Rattle.std.proofs.Common.{length, ap, arith}
use Rattle.flat_lists.specs.Flat.{Flat}
use Rattle.flat_lists.proofs.EndLemmas.{length-parts}
use Rattle.flat_lists.proofs.lists.FlatLists.get.Goals as goal

-- the list's items are among all items
pub part-requires-clause-within : goal.part-requires-clause-within
part-requires-clause-within g c =
    let seen = ap (λ (f : Flat g.row.T.Denot). length f.lists) c.self.view_is in
    let counted = length-parts 0 c.self.inside.ends.items c.self.inside.items.items in
    let lent = ap length c.deref-2.ensures.value in
    let within = c.requires in
    omega arith

-- the list has no more items than all
pub returns-clause-few : goal.returns-clause-few
returns-clause-few g c =
    let lent = ap length c.deref.ensures.value in
    let few = c.self.invariant.few_items in
    let shorter = c.part.ensures.shorter in
    omega arith
