use Rattle.std.proofs.Common.{get_or, length, arith, sym, ap, ◌∙◌, refl, drop, Some}
use Rattle.flat_lists.proofs.EndLemmas.{begin_le_end, cut-parts}
use Rattle.flat_lists.proofs.lists.part.Goals as goal

-- the list ends within the items
pub split_at-requires : goal.split_at-requires
split_at-requires g c = (begin_le_end 0 c.args.ends.now (length c.args.items.now) c.args.k c.requires.ordered c.requires.within).1

-- the list begins before it ends
pub split_at-requires-2 : goal.split_at-requires-2
split_at-requires-2 g c =
    let range = begin_le_end 0 c.args.ends.now (length c.args.items.now) c.args.k c.requires.ordered c.requires.within in
    let low = range.0 in
    let begins = c.begin.ensures in
    let cut = c.split_at.ensures.front_len in
    omega arith

-- the items between begin and end
pub returns-clause-part : goal.returns-clause-part
returns-clause-part g c =
    cut-parts c.args.ends.now c.args.items.now c.args.k c.begin.result (get_or c.args.ends.now c.args.k 0)
    c.requires.ordered c.requires.within c.begin.ensures refl
    ∙ ap Some (ap (drop c.begin.result) (sym c.split_at.ensures.front) ∙ sym c.split_at-2.ensures.back)
