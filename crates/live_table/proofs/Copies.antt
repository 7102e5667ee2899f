-- What the published copies have to do with fronts.
use Rattle.std.proofs.Common.{◌≡◌, List, Option, None, Some, refl, ◌∙◌, subst}
use mathlib.Core.List.{IsPrefix}
use Rattle.journal_defs.specs.Journals.{EntryValue}
use Rattle.live_table.specs.Values.{shape_of, FrontValue}
use Rattle.live_table.specs.declared.published.Published.{Published}
use Rattle.live_table.specs.Rule.{IsWhole, IsLaterThan, IsAt, shape_at}
use Rattle.live_table.proofs.Prefixes.{prefix_self, prefix_trans}

-- a copy that goes on from what was seen has the same shape
pub shape_kept : (v : Option Published) (y : Published) (f : FrontValue) → IsAt v f → IsLaterThan v y
    → shape_of y.table ≡ shape_at v
shape_kept None y f at since = absurd at
shape_kept (Some x) y f at since = since.shape

-- a copy that goes on from what was seen goes on from the front too
pub at_later : (v : Option Published) (y : Published) (f : FrontValue) → IsAt v f → IsLaterThan v y → IsAt (Some y) f
at_later None y f at since = absurd at
at_later (Some x) y f at since =
    (since.book ∙ at.0, prefix_trans f.journal x.table.journal y.table.journal at.1 since.later)

-- a whole copy goes on from its own front
pub at_own : (y : Published) → IsWhole y → IsAt (Some y) y.front
at_own y whole =
    (refl, subst (λ (h : List EntryValue). IsPrefix y.front.journal h) whole (prefix_self y.front.journal))
