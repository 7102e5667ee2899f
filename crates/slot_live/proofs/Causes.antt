-- The causes of refusals.
use Rattle.std.proofs.Common.{◌≡◌, ℕ, List}
use Rattle.fabric_defs.specs.Geometries.{GeometryValue}
use Rattle.journal_defs.specs.Journals.{Change, agreed, installed, evicted, EntryValue}
use Rattle.journal_defs.specs.Legality.{CanChange}
use Rattle.slot_live.specs.Calls.{IsCurrent}

-- what may come next is of the agreed network
pub following_is_current : (g : GeometryValue) (h : List EntryValue) (slot : ℕ) (c : Change) → CanChange g h slot c
    → IsCurrent h slot c
following_is_current g h slot (agreed net) can = tt
following_is_current g h slot (installed net config) can = can.same
following_is_current g h slot evicted can = tt
