use Rattle.std.proofs.Common.{◌≡◌, length, ap, arith, vec_len}
use Rattle.flat_lists.specs.Flat.{Flat, total}
use Rattle.flat_lists.proofs.EndLemmas.{total-parts}
use Rattle.flat_lists.proofs.lists.FlatLists.total.Goals as goal

-- all lists together have as many items as the array
pub returns : goal.returns
returns g c =
    let all = total-parts 0 c.self.inside.ends.items c.self.inside.items.items c.self.invariant.ordered in
    let seen = ap (λ (f : Flat g.row.T.Denot). total f.lists) c.self.view_is in
    let length_is = c.len.ensures in
    let counted : vec_len c.self.inside.items ≡ length c.self.inside.items.items = c.self.inside.items.ok.0 in
    omega arith
