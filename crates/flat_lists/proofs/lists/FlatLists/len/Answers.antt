use Rattle.std.proofs.Common.{◌≡◌, length, sym, ap, ◌∙◌, vec_len}
use Rattle.flat_lists.specs.Flat.{Flat}
use Rattle.flat_lists.proofs.EndLemmas.{length-parts}
use Rattle.flat_lists.proofs.lists.FlatLists.len.Goals as goal

-- there are as many lists as ends
pub returns : goal.returns
returns g c =
    let counted : vec_len c.self.inside.ends ≡ length c.self.inside.ends.items = c.self.inside.ends.ok.0 in
    c.len.ensures ∙ counted ∙ sym (length-parts 0 c.self.inside.ends.items c.self.inside.items.items)
    ∙ ap (λ (f : Flat g.row.T.Denot). length f.lists) c.self.view_is
